-- Rows to make examples of, and what holds of rows that are written out.
use Rattle.std.proofs.Common.{◌≡◌, ℕ, Bool, false, List, [], ◌∷◌, Some, ap, subst, inl, inr, codes}
use Rattle.std.specs.Prelude.{⊤, pos}
use Rattle.step_literals.specs.declared.literal.items.Item.TheVariants.{Code}
use Rattle.step_values.specs.Leaves.{unset, number, text}
use Rattle.step_values.specs.Values.{leaf, reference, sequence, bag, Values, none, more}
use Rattle.value_equality.specs.Rows.{Row, Kind, row_at}
use Rattle.value_equality.proofs.Lookup.{row_cases}

-- a property of each row of a list that is written out
abbrev pub EachRow : (ℕ → Row → Type 0) → List Row → Type 0
EachRow F [] = ⊤
EachRow F (r ∷ rows) = F r.name r × EachRow F rows

pub each_row : (F : ℕ → Row → Type 0) (rows : List Row) → EachRow F rows → (x : ℕ) (p : Row) → row_at rows x ≡ Some p
    → F x p
each_row F [] f x p n = absurd (cc)
each_row F (r ∷ rows) f x p n =
    elim (row_cases r rows x p n) [
      | inl here ↦ subst (λ (q : Row). F x q) here.1 (subst (λ y. F y r) here.0 f.0)
      | inr there ↦ each_row F rows f.1 x p there.1
    ]

-- A property of each two rows of a list that is written out.
abbrev pub EachTwo : (ℕ → ℕ → Row → Row → Type 0) → List Row → Type 0
EachTwo G rows = EachRow (λ x p. EachRow (λ z q. G x z p q) rows) rows

pub each_two : (G : ℕ → ℕ → Row → Row → Type 0) (rows : List Row) → EachTwo G rows → (x z : ℕ) (p q : Row)
    → row_at rows x ≡ Some p → row_at rows z ≡ Some q → G x z p q
each_two G rows f x z p q n m = each_row (λ w r. G x w p r) rows (each_row (λ y r. EachRow (λ w s. G y w r s) rows) rows
    f x p n) z q m

abbrev pub row : ℕ → List ℕ → Values → Row
row name word values = record { name = name; section = 0; types = word ∷ []; values = values }

-- rows of one kind are of one type
pub one_type : {a b : Kind} → a ≡ b → a.1 ≡ b.1
one_type e = ap (λ (k : Kind). k.1) e

-- nothing is pinned
abbrev pub free : ℕ → Bool
free y = false

-- `POINT((x,1.))`
abbrev pub point : ℕ → ℕ → Row
point name x = row name (codes "POINT") (more
    (sequence (more (leaf (number (pos x))) (more (leaf (number (pos 1))) none))) none)

-- `PLACEMENT(#y,$)`
abbrev pub placement : ℕ → ℕ → Row
placement name y = row name (codes "PLACEMENT") (more (reference y) (more (leaf unset) none))

-- `NODE(#next)`
abbrev pub node : ℕ → ℕ → Row
node name next = row name (codes "NODE") (more (reference next) none)

-- `BUNDLE((#y))`, a set of one
abbrev pub single : ℕ → ℕ → Row
single name y = row name (codes "BUNDLE") (more (bag (more (reference y) none)) none)

-- `BUNDLE((#y,#z))`, a set
abbrev pub bundle : ℕ → ℕ → ℕ → Row
bundle name y z = row name (codes "BUNDLE") (more (bag (more (reference y) (more (reference z) none))) none)

-- `NOTE('a',#y)`
abbrev pub note : ℕ → ℕ → Row
note name y = row name (codes "NOTE") (more (leaf (text (Code 97 ∷ []))) (more (reference y) none))

-- `#1=POINT((0.,1.));` `#2=POINT((0.0,1.E0));` `#3=PLACEMENT(#1,$);` `#4=PLACEMENT(#2,$);`
abbrev pub twice : List Row
twice = point 1 0 ∷ point 2 0 ∷ placement 3 1 ∷ placement 4 2 ∷ []
