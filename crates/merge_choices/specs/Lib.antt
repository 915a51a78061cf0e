pub mod ChosenEntities
