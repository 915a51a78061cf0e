-- Which places of a run are the same file.
use Rattle.std.specs.Prelude.{◌≡◌, Option, Some, None, string_bytes}
use Rattle.file_store.specs.declared.node.Node.{Node}
use Rattle.file_store.specs.declared.place.Entry.{Entry}
use Rattle.file_store.specs.declared.place.Place.{Place}
use Rattle.file_store.specs.declared.place.Place.TheVariants.{Nowhere, Other, File, Free}
use Rattle.file_store.specs.declared.standard_streams.Streams.{Streams}
use Rattle.file_store.specs.declared.clash.Places.{Places}
use Rattle.file_store.specs.declared.clash.Clash.{Clash}
use Rattle.file_store.specs.declared.clash.Clash.TheVariants.{OutputIsCertificate, SchemaIsOutput, SchemaIsCertificate, FileIsCertificate, OutputIsStandardOutput, OutputIsStandardError, CertificateIsStandardOutput, CertificateIsStandardError}

-- the same name in the same folder
abbrev pub IsSameEntry : Entry → Entry → Type 0
IsSameEntry one other = (one.folder ≡ other.folder) × (string_bytes one.name ≡ string_bytes other.name)

-- Whether two entries of one file may be the same name. A file without an entry has one name only.
abbrev pub IsSameName : Option Entry → Option Entry → Type 0
IsSameName (Some one) (Some other) = IsSameEntry one other
IsSameName (Some one) None = Unit {0}
IsSameName None other = Unit {0}

-- Whether writing to one place changes the other: one regular file, or one name at which there is no file yet.
abbrev pub IsSamePlace : Place → Place → Type 0
IsSamePlace (File one entry) (File other name) = (one ≡ other) × IsSameName entry name
IsSamePlace (File one entry) (Free other) = ⊥
IsSamePlace (File one entry) Nowhere = ⊥
IsSamePlace (File one entry) Other = ⊥
IsSamePlace (Free one) (Free other) = IsSameEntry one other
IsSamePlace (Free one) (File other name) = ⊥
IsSamePlace (Free one) Nowhere = ⊥
IsSamePlace (Free one) Other = ⊥
IsSamePlace Nowhere _ = ⊥
IsSamePlace Other _ = ⊥

-- Whether a place is the regular file to which a stream goes.
abbrev pub IsStream : Place → Option Node → Type 0
IsStream (File node entry) (Some stream) = node ≡ stream
IsStream (File node entry) None = ⊥
IsStream (Free entry) stream = ⊥
IsStream Nowhere stream = ⊥
IsStream Other stream = ⊥

-- what each clash of two files says of the places of a run
abbrev pub IsFileClash : Places → Clash → Type 0
IsFileClash p OutputIsCertificate = IsSamePlace p.output p.certificate
IsFileClash p SchemaIsOutput = IsSamePlace p.schema p.output
IsFileClash p SchemaIsCertificate = IsSamePlace p.schema p.certificate
IsFileClash p FileIsCertificate = IsSamePlace p.file p.certificate
IsFileClash p OutputIsStandardOutput = ⊥
IsFileClash p OutputIsStandardError = ⊥
IsFileClash p CertificateIsStandardOutput = ⊥
IsFileClash p CertificateIsStandardError = ⊥

-- what each clash with a stream says of the places and the streams of a run
abbrev pub IsStreamClash : Places → Streams → Clash → Type 0
IsStreamClash p s OutputIsCertificate = ⊥
IsStreamClash p s SchemaIsOutput = ⊥
IsStreamClash p s SchemaIsCertificate = ⊥
IsStreamClash p s FileIsCertificate = ⊥
IsStreamClash p s OutputIsStandardOutput = IsStream p.output s.output
IsStreamClash p s OutputIsStandardError = IsStream p.output s.error
IsStreamClash p s CertificateIsStandardOutput = IsStream p.certificate s.output
IsStreamClash p s CertificateIsStandardError = IsStream p.certificate s.error

-- No file of a run is lost to another one: only OUT may be FILE.
abbrev pub AreApart : Places → Type 0
AreApart p = (IsSamePlace p.output p.certificate → ⊥) × (IsSamePlace p.schema p.output → ⊥)
    × (IsSamePlace p.schema p.certificate → ⊥) × (IsSamePlace p.file p.certificate → ⊥)

-- Neither written file is a regular file to which a standard stream goes.
abbrev pub AreNoStreams : Places → Streams → Type 0
AreNoStreams p s = (IsStream p.output s.output → ⊥) × (IsStream p.output s.error → ⊥)
    × (IsStream p.certificate s.output → ⊥) × (IsStream p.certificate s.error → ⊥)
