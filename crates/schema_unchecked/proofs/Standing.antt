-- A declaration has the number of its place, where names are resolved.
use Rattle.std.specs.Prelude.{◌≡◌, ℕ, Option, Some, List, map, length, slice_get, get_or, ◌<◌}
use Rattle.std.proofs.Common.{refl, ◌∙◌}
use Rattle.std.proofs.lemmas.Option.{slice_get_read}
use Rattle.std.specs.declared.result.Result.{Result}
use Rattle.std.proofs.Common.{OnOk, Ok, subst}
use Rattle.express_syntax.specs.Schemas.{Schema, Declaration}
use Rattle.schema_semantics.specs.Names.{Name, declared_name, declaration_of}
use Rattle.schema_semantics.specs.Faults.{IsResolved}
use Rattle.schema_names.specs.Numbers.{HasNumber, IsAt}
use Rattle.schema_names.proofs.Numbers.{stands-at}
use Rattle.schema_explicit_attributes.proofs.OwnNumbers.{own-number-of}
use Rattle.schema_names.proofs.Items.{mapped-at}

pub number-here : (s : Schema) → IsResolved s → (i : ℕ) (d : Declaration) (n : Name) → IsAt s i d
    → declared_name d ≡ Some n → HasNumber s n i
number-here s r i d n at named = own-number-of s i d n r.once at named

pub stands-here : (s : Schema) → IsResolved s → (i : ℕ) (d : Declaration) (n : Name) → IsAt s i d
    → declared_name d ≡ Some n → declaration_of s.declarations n ≡ Some d
stands-here s r i d n at named = stands-at s n i (number-here s r i d n at named) ∙ at

-- what is read of a list, as it is seen
pub seen-at : {A B : Type 0} (seen : A → B) (xs : List A) (i : ℕ) (x : A) → i < length xs → x ≡ get_or xs i x
    → slice_get (map seen xs) i ≡ Some (seen x)
seen-at seen xs i x lt is = mapped-at seen xs i x (slice_get_read xs (length xs) i x refl lt is)

-- what holds on success, where it came
pub so : {T E : Type 0} (r : Result T E) (x : T) (P : Type 0) → r ≡ Ok x → OnOk r P → P
so r x P e h = subst (λ q. OnOk q P) e h
