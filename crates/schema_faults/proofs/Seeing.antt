-- What was seen from the beginning of the text.
use Rattle.std.specs.Prelude.{◌≡◌, ℕ, Bool, true, false, cond, not, ◌||◌, ◌&&◌, nat_eq, bytes_eq, List, [], ◌∷◌, ◌++◌, Option, None, Some, ◌⊎◌}
use Rattle.std.specs.List.{list_any}
use Rattle.std.specs.Option.{option_or}
use Rattle.std.proofs.Common.{refl, inl, inr, ap, sym, subst, ◌∙◌, arith}
use Rattle.std.proofs.lemmas.Slice.Eq.{bytes_eq-Decides}
use Rattle.std.proofs.lemmas.Bool.Decides.{nat_tests}
use Rattle.indexmap.specs.IndexSet.{contains, Updates}
use Rattle.step_literals.specs.declared.literal.Word.{Word}
use Rattle.express_syntax.specs.ExpressionViews.{capitals}
use Rattle.schema_semantics.specs.Names.{Among}
use Rattle.schema_semantics.specs.Faults.{Declared, IsFirstAgain}
use Rattle.schema_semantics.proofs.Lists.{none-behind}
use Rattle.schema_faults.specs.steps.Repeated.{IsSeen, IsFirstRepeated, same_entry, stands_for}
use Rattle.schema_faults.specs.declared.declared_names.Seen.{Seen}

both : (p q : Bool) → (p && q) ≡ true → (p ≡ true) × (q ≡ true)
both true q e = (refl, e)
both false q e = absurd (cc)

both-so : (p q : Bool) → p ≡ true → q ≡ true → (p && q) ≡ true
both-so true q e f = f
both-so false q e f = absurd (cc)

either : (p q : Bool) → (p || q) ≡ true → (p ≡ true) ⊎ (q ≡ true)
either true q h = inl refl
either false q h = inr h

left-so : (p q : Bool) → p ≡ true → (p || q) ≡ true
left-so true q e = refl
left-so false q e = absurd (cc)

right-so : (p q : Bool) → q ≡ true → (p || q) ≡ true
right-so true q e = refl
right-so false q e = e

-- the entry that a word in its scope is
abbrev entry_of : ℕ × Word → Declared
entry_of p = (p.0, capitals p.1)

is-same : (p : ℕ × Word) (d : Declared) → stands_for p d ≡ true → d ≡ entry_of p
is-same p d e =
    let (a, b) = both (nat_eq d.0 p.0) (bytes_eq d.1 (capitals p.1)) e in
    let scope : d.0 ≡ p.0 = grind (arith, nat_tests) in
    let name : d.1 ≡ capitals p.1 = (bytes_eq-Decides d.1 (capitals p.1)).0 b in
    λ i. (scope i, name i)

same-is : (p : ℕ × Word) (d : Declared) → d ≡ entry_of p → stands_for p d ≡ true
same-is p d e =
    let scope : d.0 ≡ p.0 = ap (λ (x : Declared). x.0) e in
    let test : nat_eq d.0 p.0 ≡ true = grind (arith, nat_tests) in
    both-so (nat_eq d.0 p.0) (bytes_eq d.1 (capitals p.1)) test
    ((bytes_eq-Decides d.1 (capitals p.1)).1 (ap (λ (x : Declared). x.1) e))

from-seen : (p : ℕ × Word) (xs : List Declared) → list_any (stands_for p) xs ≡ true → Among (entry_of p) xs
from-seen p [] h = absurd (cc)
from-seen p (x ∷ xs) h = which (either (stands_for p x) (list_any (stands_for p) xs) h) (from-seen p xs)
  where
    which : (stands_for p x ≡ true) ⊎ (list_any (stands_for p) xs ≡ true)
        → (list_any (stands_for p) xs ≡ true → Among (entry_of p) xs) → Among (entry_of p) (x ∷ xs)
    which (inl e) more = inl (is-same p x e)
    which (inr e) more = inr (more e)

are-seen : (p : ℕ × Word) (xs : List Declared) → Among (entry_of p) xs → list_any (stands_for p) xs ≡ true
are-seen p [] m = elim m [ ]
are-seen p (x ∷ xs) (inl e) = left-so (stands_for p x) (list_any (stands_for p) xs) (same-is p x e)
are-seen p (x ∷ xs) (inr m) = right-so (stands_for p x) (list_any (stands_for p) xs) (are-seen p xs m)

-- what comes again does so whatever is behind the list
again-kept : {A : Type 0} (before xs ys : List A) (x : A) → IsFirstAgain before xs x → IsFirstAgain before (xs ++ ys) x
again-kept before [] ys x h = elim h [ ]
again-kept before (z ∷ zs) ys x (inl h) = inl h
again-kept before (z ∷ zs) ys x (inr h) = inr (h.0, again-kept (z ∷ before) zs ys x h.1)

-- where none comes again, the next item is the first one, if it is there already
again-last : {A : Type 0} (before xs : List A) (y : A) → ((x : A) → IsFirstAgain before xs x → ⊥)
    → Among y before ⊎ Among y xs → IsFirstAgain before (xs ++ y ∷ []) y
again-last before [] y none (inl m) = inl (m, refl)
again-last before [] y none (inr m) = elim m [ ]
again-last {A} before (z ∷ zs) y none m =
    inr ((λ b. none z (inl (b, refl))), again-last (z ∷ before) zs y (none-behind before z zs none) (shift m))
  where
    shift : Among y before ⊎ Among y (z ∷ zs) → Among y (z ∷ before) ⊎ Among y zs
    shift (inl b) = inl (inr b)
    shift (inr (inl e)) = inl (inl e)
    shift (inr (inr k)) = inr k

-- without a repeated name before, a new name repeats none
none-last : {A : Type 0} (before xs : List A) (y : A) → ((x : A) → IsFirstAgain before xs x → ⊥)
    → (Among y before → ⊥) → (Among y xs → ⊥) → (x : A) → IsFirstAgain before (xs ++ y ∷ []) x → ⊥
none-last before [] y none b m x (inl h) = b h.0
none-last before [] y none b m x (inr h) = h.1
none-last before (z ∷ zs) y none b m x (inl h) = none z (inl (h.0, refl))
none-last {A} before (z ∷ zs) y none b m x (inr h) =
    none-last (z ∷ before) zs y (none-behind before z zs none) apart (λ k. m (inr k)) x h.1
  where
    apart : Among y (z ∷ before) → ⊥
    apart (inl e) = m (inl e)
    apart (inr k) = b k

next-first : (xs : List Declared) (y : Declared) (o : Option Word) → (Among y xs → ⊥) → IsFirstRepeated xs o
    → IsFirstRepeated (xs ++ y ∷ []) o
next-first xs y None fresh h = none-last [] xs y h (λ b. b) fresh
next-first xs y (Some w) fresh h = (h.0, again-kept [] xs (y ∷ []) (h.0, capitals w) h.1)

repeated-first : (xs : List Declared) (scope : ℕ) (word : Word) (o : Option Word) → Among (scope, capitals word) xs
    → IsFirstRepeated xs o → IsFirstRepeated (xs ++ (scope, capitals word) ∷ []) (option_or o (Some word))
repeated-first xs scope word None m h = (scope, again-last [] xs (scope, capitals word) h (inr m))
repeated-first xs scope word (Some w) m h =
    (h.0, again-kept [] xs ((scope, capitals word) ∷ []) (h.0, capitals w) h.1)

-- a test that holds of one, and of one more
or-more : (b c d e : Bool) → b ≡ (c || d) → (e || b) ≡ ((e || c) || d)
or-more b c d true h = refl
or-more b c d false h = h

any-more : {A : Type 0} (f : A → Bool) (xs : List A) (y : A) → list_any f (xs ++ y ∷ []) ≡ (list_any f xs || f y)
any-more f [] y = or-false (f y)
  where
    or-false : (b : Bool) → (b || false) ≡ b
    or-false true = refl
    or-false false = refl
any-more f (x ∷ xs) y = or-more (list_any f (xs ++ y ∷ [])) (list_any f xs) (f y) (f x) (any-more f xs y)

cond-or : (b c : Bool) → cond b true c ≡ (c || b)
cond-or true true = refl
cond-or true false = refl
cond-or false true = refl
cond-or false false = refl

-- one name more
module _ (old new : Seen) (scope : ℕ) (word : Word)
    (updates : Updates same_entry old.names new.names (scope, word) true) (xs : List Declared)
    (seen : IsSeen old xs) where
  has-more : (p : ℕ × Word)
      → contains same_entry new.names p ≡ list_any (stands_for p) (xs ++ (scope, capitals word) ∷ [])
  has-more p =
      updates.0 p ∙ ap (cond (same_entry (scope, word) p) true) (seen.has p)
      ∙ cond-or (same_entry (scope, word) p) (list_any (stands_for p) xs)
      ∙ sym (any-more (stands_for p) xs (scope, capitals word))

  pub seen-new : contains same_entry old.names (scope, word) ≡ false → new.duplicate ≡ old.duplicate
      → IsSeen new (xs ++ (scope, capitals word) ∷ [])
  seen-new absent same = record {
    has = has-more;
    first =
        subst (IsFirstRepeated (xs ++ (scope, capitals word) ∷ [])) (sym same)
        (next-first xs (scope, capitals word) old.duplicate
        (λ m.
        let here = are-seen (scope, word) xs m in
        let there = sym absent ∙ seen.has (scope, word) ∙ here in absurd (cc)) seen.first);
  }

  pub seen-again : contains same_entry old.names (scope, word) ≡ true
      → new.duplicate ≡ option_or old.duplicate (Some word) → IsSeen new (xs ++ (scope, capitals word) ∷ [])
  seen-again present same = record {
    has = has-more;
    first =
        subst (IsFirstRepeated (xs ++ (scope, capitals word) ∷ [])) (sym same)
        (repeated-first xs scope word old.duplicate
        (from-seen (scope, word) xs (sym (seen.has (scope, word)) ∙ present)) seen.first);
  }

-- whether it was new
pub was-there : (new there : Bool) → new ≡ not there → new ≡ false → there ≡ true
was-there new true e f = refl
was-there new false e f = absurd (cc)

pub was-not : (new there : Bool) → new ≡ not there → new ≡ true → there ≡ false
was-not new true e f = absurd (cc)
was-not new false e f = refl

-- before the first name
pub seen-nothing : (a : Seen) → a.names.keys ≡ [] → a.duplicate ≡ None → IsSeen a []
seen-nothing a empty none = record {
  has = λ p. ap (list_any (same_entry p)) empty;
  first = subst (IsFirstRepeated []) (sym none) (λ x t. t);
}
