-- Values that are found, one behind the other.
use Rattle.std.specs.Prelude.{◌≡◌, ℕ, Bool, true, false, ◌||◌, List, [], ◌∷◌, ◌++◌, map, eqb}
use Rattle.std.proofs.Common.{refl, sym, ap, subst, ◌∙◌, append_assoc, append-nil, arith}
use Rattle.std.proofs.lemmas.Bool.Decides.{nat_tests}
use Rattle.std.proofs.lemmas.List.{map-append}
use Rattle.std.proofs.lemmas.List.Folds.{list_any-append}
use Rattle.graphs.specs.Graphs.{has}
use Rattle.express_logic.specs.Data.{Datum}
use Rattle.rule_values.specs.Parts.{element_datum}
use Rattle.rule_plans.specs.declared.found_values.Typed.{Typed}
use Rattle.rule_plans.specs.declared.found_values.Found.{Found}
use Rattle.rule_plans.specs.steps.Coded.{Told}
use Rattle.rule_plans.specs.steps.Seeking.{number, told_in, Adds}

or-false : (b : Bool) → (b || false) ≡ b
or-false true = refl
or-false false = refl

assoc : (a b c : Bool) → ((a || b) || c) ≡ (a || (b || c))
assoc true b c = refl
assoc false b c = refl

pub noted-before : (xs : List ℕ) (n i : ℕ) → has xs n ≡ true → has xs i ≡ (has xs i || eqb i n)
noted-before xs n i h = grind (arith, nat_tests)

pub adds-nothing : (old : Found) → Adds [] old old
adds-nothing old = record {
  keeps = refl;
  values = λ k. sym (append-nil (map told_in old.values.items));
  types = λ k i. sym (or-false (has old.types.items i));
}

-- a value that is kept, and one whose type is noted
pub adds-value : (n : ℕ) (d : Datum) (x : Typed) (old new : Found) → new.keeps ≡ old.keeps → old.keeps ≡ true
    → new.values.items ≡ old.values.items ++ x ∷ [] → x.number ≡ n → element_datum x.element ≡ d
    → Adds ((n, d) ∷ []) old new
adds-value n d x old new same keeps is e f = record {
  keeps = same;
  values = λ k. ap (map told_in) is ∙ map-append told_in old.values.items (x ∷ [])
      ∙ ap (λ (i : ℕ). map told_in old.values.items ++ (i, element_datum x.element) ∷ []) e
      ∙ ap (λ (y : Datum). map told_in old.values.items ++ (n, y) ∷ []) f;
  types = λ k i. absurd (let no : true ≡ false = sym keeps ∙ k in cc);
}

pub adds-type : (n : ℕ) (d : Datum) (old new : Found) → new.keeps ≡ old.keeps → old.keeps ≡ false
    → ((i : ℕ) → has new.types.items i ≡ (has old.types.items i || eqb i n)) → Adds ((n, d) ∷ []) old new
adds-type n d old new same keeps h = record {
  keeps = same;
  values = λ k. absurd (let no : true ≡ false = sym k ∙ keeps in cc);
  types = λ k i. h i ∙ ap (λ b. has old.types.items i || b) (sym (or-false (eqb i n)));
}

pub adds-both : (ts us : List Told) (old mid new : Found) → Adds ts old mid → Adds us mid new → Adds (ts ++ us) old new
adds-both ts us old mid new h k = record {
  keeps = k.keeps ∙ h.keeps;
  values = λ e. k.values (h.keeps ∙ e) ∙ ap (λ (l : List Told). l ++ us) (h.values e)
      ∙ append_assoc (map told_in old.values.items) ts us;
  types = λ e i. k.types (h.keeps ∙ e) i ∙ ap (λ b. b || has (map number us) i) (h.types e i)
      ∙ assoc (has old.types.items i) (has (map number ts) i) (has (map number us) i)
      ∙ ap (λ b. has old.types.items i || b)
      (sym (list_any-append (eqb i) (map number ts) (map number us))
      ∙ ap (λ (l : List ℕ). has l i) (sym (map-append number ts us)));
}

-- some are left to be added
abbrev pub AddsUpTo : List Told → List Told → Found → Found → Type 0
AddsUpTo whole left old now = (done : List Told) × (done ++ left ≡ whole) × Adds done old now

pub starts : (whole : List Told) (old : Found) → AddsUpTo whole whole old old
starts whole old = ([], refl, adds-nothing old)

pub next : (whole left ts rest : List Told) (old now new : Found) → left ≡ ts ++ rest
    → AddsUpTo whole left old now → Adds ts now new → AddsUpTo whole rest old new
next whole left ts rest old now new cut (done, e, h) k = (
  done ++ ts,
  append_assoc done ts rest ∙ ap (λ (l : List Told). done ++ l) (sym cut) ∙ e,
  adds-both done ts old now new h k,
)

pub ends : (whole left : List Told) (old new : Found) → left ≡ [] → AddsUpTo whole left old new → Adds whole old new
ends whole left old new none (done, e, h) =
    subst (λ ts. Adds ts old new) (sym (append-nil done) ∙ ap (λ (l : List Told). done ++ l) (sym none) ∙ e) h
