-- Whether members have the names of rows, one by one.
use Rattle.std.proofs.Common.{◌≡◌, ◌≢◌, ◌<◌, ◌+◌, ℕ, true, false, List, map, take, length, get_or, Some, slice_get, sym, ap, ◌∙◌, subst}
use Rattle.std.specs.Prelude.{◌↔◌}
use Rattle.std.proofs.lemmas.Bool.{false≢true}
use Rattle.std.proofs.lemmas.List.{take_more_same}
use Rattle.std.proofs.lemmas.Option.{slice_get_within, get_or_from_slice_get}
use Rattle.value_equality.proofs.Ancestors.{seen_at}
use Rattle.value_equality.specs.Rows.{Row, names}
use Rattle.value_equality.specs.TableViews.{member_of}
use Rattle.value_equality.specs.Tables.{Table, HasMembers}
use Rattle.certificate_checks.proofs.FirstMembers.{map_members}

abbrev pub named : List (ℕ × ℕ) → List ℕ
named ms = map (λ (m : ℕ × ℕ). m.0) ms

-- the name of the member at a place
pub member_name : (ms : List (ℕ × ℕ)) (i : ℕ) (m : ℕ × ℕ) → i < length ms → m ≡ get_or ms i m
    → slice_get (named (map member_of ms)) i ≡ Some m.0
member_name ms i m lt e = subst (λ ns. slice_get (named ns) i ≡ Some m.0) (sym (map_members ms))
    (seen_at (λ (n : ℕ × ℕ). n.0) ms i m lt e)

-- another name than that of the row at its place
pub other_name : (P : List Row) (t : Table) (i x y : ℕ) → slice_get (named t.members) i ≡ Some x
    → slice_get (names P) i ≡ Some y → x ≢ y → (false ≡ true) ↔ HasMembers P t
other_name P t i x y at there other = (
  λ e. absurd (false≢true e),
  λ h. absurd (other (let both : Some x ≡ Some y = sym at ∙ ap (λ ns. slice_get ns i) h ∙ there in cc)),
)

-- one name more
pub one_name_more : (xs ys : List ℕ) (i x : ℕ) → slice_get xs i ≡ Some x → slice_get ys i ≡ Some x
    → take i xs ≡ take i ys → take (i + 1) xs ≡ take (i + 1) ys
one_name_more xs ys i x at there e = take_more_same xs ys i 0 (slice_get_within xs i x at) (slice_get_within ys i x there) e
    (get_or_from_slice_get xs i x 0 at ∙ sym (get_or_from_slice_get ys i x 0 there))
