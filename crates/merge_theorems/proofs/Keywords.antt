-- No keyword stands twice in an instance of a file that is read.
use Rattle.std.specs.Prelude.{◌≡◌, ℕ, false, List, [], ◌∷◌, ◌++◌, map, bytes_eq}
use Rattle.std.specs.Char.{to_ascii_lowercase}
use Rattle.std.specs.List.{IsDistinct, AllByRecursion}
use Rattle.std.proofs.Common.{refl, subst, inl, inr}
use Rattle.std.proofs.lemmas.Bool.{both_ways, or_parts}
use Rattle.std.proofs.lemmas.Map.Keys.{IsDistinct-cons}
use Rattle.std.proofs.lemmas.Slice.Eq.{bytes_eq-Decides}
use Rattle.step_literals.specs.Words.{upper}
use Rattle.step_literals.proofs.CaseLemmas.{same_without_case}
use Rattle.step_structures.specs.Trees.{Record, Form, internal, external, ExchangeRow, is_said}
use Rattle.step_structures.specs.Fits.{the_rules, has_keyword, FitsPartialRecords, FitsForm, FitsRows}
use Rattle.express_syntax.specs.Profile.{Every}
use Rattle.schema_semantics.specs.Names.{Among}
use Rattle.schema_semantics.proofs.Bools.{is-false}
use Rattle.schema_semantics.proofs.Lists.{among-left, among-right}
use Rattle.conformance.specs.Entities.{records, named_entity}
use Rattle.merge_theorems.specs.Layout.{HasKeywordsOnce}
use Rattle.merge_theorems.specs.ImageLaws.{KeywordsStandOnce}

-- a keyword that another doesn't say names another entity
other : (w v : List ℕ) → is_said w v ≡ false → bytes_eq (upper w) (upper v) ≡ false
other w v h =
    is-false (bytes_eq (upper w) (upper v)) (λ t. both_ways (is_said w v) h
    ((bytes_eq-Decides (map to_ascii_lowercase w) (map to_ascii_lowercase v)).1
    ((same_without_case w v).1 ((bytes_eq-Decides (upper w) (upper v)).0 t))))

none_says : (v w : List ℕ) (ws : List (List ℕ)) → has_keyword v ws ≡ false → Among w ws → is_said w v ≡ false
none_says v w [] h m = elim m [ ]
none_says v w (x ∷ ws) h (inl e) =
    subst (λ y. is_said y v ≡ false) e (or_parts (is_said x v) (has_keyword v ws) h).0
none_says v w (x ∷ ws) h (inr m) = none_says v w ws (or_parts (is_said x v) (has_keyword v ws) h).1 m

-- what stands before names none of those behind
apart : (before : List (List ℕ)) (ps : List Record) → FitsPartialRecords the_rules before ps → (w : List ℕ)
    → Among w before → AllByRecursion (λ n. bytes_eq (upper w) n ≡ false) (map named_entity ps)
apart before [] h w m = tt
apart before (p ∷ ps) h w m = (
  other w p.keyword (none_says p.keyword w before h.0 m),
  apart (before ++ p.keyword ∷ []) ps h.2 w (among-left w before (p.keyword ∷ []) m),
)

nothing : IsDistinct bytes_eq []
unfolding IsDistinct
nothing = tt

parts_once : (before : List (List ℕ)) (ps : List Record) → FitsPartialRecords the_rules before ps
    → IsDistinct bytes_eq (map named_entity ps)
parts_once before [] h = nothing
parts_once before (p ∷ ps) h =
    IsDistinct-cons bytes_eq (named_entity p) (map named_entity ps)
    (apart (before ++ p.keyword ∷ []) ps h.2 p.keyword (among-right p.keyword before (p.keyword ∷ []) (inl refl)))
    (parts_once (before ++ p.keyword ∷ []) ps h.2)

form_once : (f : Form) → FitsForm the_rules f → IsDistinct bytes_eq (map named_entity (records f))
form_once (internal p) h = IsDistinct-cons bytes_eq (named_entity p) [] tt nothing
form_once (external ps) h = parts_once [] ps h.2

rows_once : (before : List ℕ) (rs : List ExchangeRow) → FitsRows the_rules before rs → Every HasKeywordsOnce rs
rows_once before [] h = tt
rows_once before (r ∷ rs) h = (form_once r.form h.2, rows_once (before ++ r.name ∷ []) rs h.3)

pub keywords_stand_once : KeywordsStandOnce
keywords_stand_once f fits = rows_once [] _ fits.1.2
