-- Characters that spell the name of a schema, and headings.
use Rattle.std.specs.Prelude.{◌≡◌, ℕ, suc, ◌+◌, ◌-◌, ◌<◌, ◌≤◌, ◌==◌, ◌&&◌, ◌||◌, not, Bool, true, false, cond, List, [], ◌∷◌, length, map, take, drop, Option, bytes_eq, get_or}
use Rattle.std.specs.List.{list_all, take_while, prefix_len}
use Rattle.std.specs.Char.{to_ascii_uppercase}
use Rattle.std.proofs.Common.{refl, ap, ◌∙◌, arith}
use Rattle.std.proofs.Math.ListN.{drop_of_length-le}
use Rattle.step_literals.specs.Words.{upper}
use Rattle.step_literals.specs.Items.{string_items}
use Rattle.step_literals.specs.declared.literal.items.Item.{Item}
use Rattle.step_literals.specs.declared.literal.items.Item.TheVariants.{Code, Page, Raw}
use Rattle.step_structures.specs.Trees.{ExchangeRow}
use Rattle.step_structures.specs.Trees as trees
use Rattle.step_exchange.specs.declared.section.Section.{Section}
use Rattle.step_exchange.specs.Sections.{sections_of, heading_of}
use Rattle.step_exchange.proofs.Cuts.{drop_next}
use Rattle.schema_semantics.specs.Names.{Name}
use Rattle.conformance.specs.Findings.{code_of, ends_name, or_zero, names_schema, names_one, heading_names}
use Rattle.population_findings.specs.steps.SchemaNames.{is_next, names_so, headings_name}

while-next : {X : Type 0} (p : X → Bool) (x : X) (xs : List X) → take_while p (x ∷ xs)
    ≡ cond (p x) (x ∷ take_while p xs) []
while-next {X} p x xs = by (p x)
  where
    by : (b : Bool) → take (cond b (1 + prefix_len p xs) 0) (x ∷ xs) ≡ cond b (x ∷ take_while p xs) []
    by true =
        let more : 1 + prefix_len p xs ≡ suc (prefix_len p xs) = omega arith in
        ap (λ n. take n (x ∷ xs)) more
    by false = refl

-- one more character
names-step : (b : ℕ) (bs : List ℕ) (x : Item) (xs : List Item)
    → names_so (b ∷ bs) (x ∷ xs) ≡ (is_next x b && names_so bs xs)
names-step b bs x xs =
    ap (λ l. bytes_eq (upper (map or_zero l)) (upper (b ∷ bs)))
    (while-next (λ c. not (ends_name c)) (code_of x) (map code_of xs)) ∙ by (not (ends_name (code_of x)))
  where
    rest : List (Option ℕ)
    rest = take_while (λ c. not (ends_name c)) (map code_of xs)

    by : (q : Bool) → bytes_eq (upper (map or_zero (cond q (code_of x ∷ rest) []))) (upper (b ∷ bs))
        ≡ ((q && to_ascii_uppercase (or_zero (code_of x)) == to_ascii_uppercase b)
        && bytes_eq (upper (map or_zero rest)) (upper bs))
    by true = refl
    by false = refl

module _ (t : List ℕ) (i : ℕ) (within : i < length t) (xs : List Item) where
  front : names_so (drop i t) xs ≡ names_so (get_or t i 0 ∷ drop (i + 1) t) xs
  front = ap (λ l. names_so l xs) (drop_next t i (get_or t i 0) 0 within refl)

  pub next-short : xs ≡ [] → names_so (drop i t) xs ≡ false
  next-short e = front ∙ ap (λ l. names_so (get_or t i 0 ∷ drop (i + 1) t) l) e

  pub next-other : (x : Item) (ys : List Item) → xs ≡ x ∷ ys → is_next x (get_or t i 0) ≡ false
      → names_so (drop i t) xs ≡ false
  next-other x ys e h =
      front ∙ ap (λ l. names_so (get_or t i 0 ∷ drop (i + 1) t) l) e
      ∙ names-step (get_or t i 0) (drop (i + 1) t) x ys ∙ ap (λ b. b && names_so (drop (i + 1) t) ys) h

  pub next-same : (x : Item) (ys : List Item) → xs ≡ x ∷ ys → is_next x (get_or t i 0) ≡ true
      → names_so (drop i t) xs ≡ names_so (drop (i + 1) t) ys
  next-same x ys e h =
      front ∙ ap (λ l. names_so (get_or t i 0 ∷ drop (i + 1) t) l) e
      ∙ names-step (get_or t i 0) (drop (i + 1) t) x ys ∙ ap (λ b. b && names_so (drop (i + 1) t) ys) h

-- behind the last letter
pub at-end : (t : List ℕ) (i : ℕ) (xs : List Item) → length t ≤ i → xs ≡ [] → names_so (drop i t) xs ≡ true
at-end t i xs h e = ap (λ l. names_so l xs) (drop_of_length-le t h) ∙ ap (names_so []) e

end-step : (x : Item) (xs : List Item) → names_so [] (x ∷ xs) ≡ ends_name (code_of x)
end-step x xs =
    ap (λ l. bytes_eq (upper (map or_zero l)) []) (while-next (λ c. not (ends_name c)) (code_of x) (map code_of xs))
    ∙ by (ends_name (code_of x))
  where
    rest : List (Option ℕ)
    rest = take_while (λ c. not (ends_name c)) (map code_of xs)

    by : (q : Bool) → bytes_eq (upper (map or_zero (cond (not q) (code_of x ∷ rest) []))) [] ≡ q
    by true = refl
    by false = refl

pub behind-end : (t : List ℕ) (i : ℕ) (xs : List Item) (x : Item) (ys : List Item) → length t ≤ i → xs ≡ x ∷ ys
    → names_so (drop i t) xs ≡ ends_name (code_of x)
behind-end t i xs x ys h e =
    ap (λ l. names_so l xs) (drop_of_length-le t h) ∙ ap (names_so []) e ∙ end-step x ys

pub ends-so : (x : Item) → (or_zero (code_of x) == 32 || or_zero (code_of x) == 123) ≡ ends_name (code_of x)
ends-so (Code c) = refl
ends-so (Page p c) = refl
ends-so (Raw b) = refl

-- no string names no schema
pub no-string : (names : List Name) (text : List ℕ) → text ≡ [] → names_one names text ≡ false
unfolding string_items
no-string names text e = ap (names_one names) e ∙ by names
  where
    of-one : (n : Name) → names_schema n [] ≡ false
    of-one [] = refl
    of-one (b ∷ bs) = refl

    by : (ns : List Name) → names_one ns [] ≡ false
    by [] = refl
    by (n ∷ ns) = ap (λ b. b || names_one ns []) (of-one n) ∙ by ns

-- a name that isn't empty is named by what spells it
pub named-so : (t : List ℕ) (text : List ℕ) → bytes_eq t [] ≡ false
    → names_so t (string_items text) ≡ names_schema (upper t) text
named-so [] text e = absurd (cc)
named-so (b ∷ bs) text e = refl

-- an empty name names no schema
pub empty-names-none : (t : List ℕ) (text : List ℕ) → bytes_eq t [] ≡ true → false ≡ names_schema (upper t) text
empty-names-none [] text e = refl
empty-names-none (b ∷ bs) text e = absurd (cc)

-- the headings of sections
pub same-headings : (names : List Name) (from : ℕ) (ss : List Section) (rows : List ExchangeRow)
    → list_all (λ (x : trees.Section). heading_names names x.heading) (sections_of from ss rows) ≡ headings_name names ss
same-headings names from [] rows = refl
same-headings names from (s ∷ ss) rows =
    ap (λ b. heading_names names (heading_of s.heading) && b) (same-headings names s.past ss (drop (s.past - from) rows))
