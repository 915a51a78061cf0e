pub mod UncheckedLists
