-- Files by their paths.
use Rattle.std.specs.Prelude.{◌≡◌, ◌++◌, ℕ, List, [], ◌∷◌, Option, Some, None, Bool}

-- What a store reveals of a file: its content, and whether each read of it fails (`true`) or none does (`false`).
pub record Stored : Type 0 where
  pub contents : Option (List ℕ)
  pub fails : Option Bool

-- what a store reveals of the file at a path
abbrev pub file_seen : {S : Type 0} → (S → List ℕ → Option (List ℕ)) → (S → List ℕ → Option Bool) → S → List ℕ → Stored
file_seen contents fails store path = record { contents = contents store path; fails = fails store path }

-- what a reader reveals of its file
abbrev pub reader_seen : {S : Type 0} → (S → Option (List ℕ)) → (S → Option Bool) → S → Stored
reader_seen to_come fails reader = record { contents = to_come reader; fails = fails reader }

-- `HoldsWritten written held holds`: a file that held `held` holds `holds` after `written` was written to it, if
-- the writer reveals what was written. The file is created at the first write, so it keeps its former content if
-- nothing was written.
abbrev pub HoldsWritten : Option (List ℕ) → Option (List ℕ) → Option (List ℕ) → Type 0
HoldsWritten None held holds = Unit {0}
HoldsWritten (Some []) held holds = holds ≡ held
HoldsWritten (Some (byte ∷ bytes)) held holds = holds ≡ Some (byte ∷ bytes)

-- An access to the file at a path: it is opened to be read, opened to be written, or its writer is taken back. A
-- reader opens its file at the first read, a writer creates its file at the first write, and each does so once.
pub data Access : Type 0 where
  to_read : List ℕ → Access
  to_write : List ℕ → Access
  to_keep : List ℕ → Access

-- The accesses `files` follow the earlier ones in this order, if these are revealed.
abbrev pub Opens : Option (List Access) → Option (List Access) → List Access → Type 0
Opens None new files = Unit {0}
Opens (Some before) new files = new ≡ Some (before ++ files)
