-- The instances of an exchange structure, and their names.
use Rattle.std.specs.Prelude.{◌≡◌, ℕ, ◌+◌, ◌-◌, ◌<◌, ◌≤◌, ◌^◌, ◌==◌, List, [], ◌∷◌, ◌++◌, length, map, take, drop}
use Rattle.std.specs.List.{IsDistinct}
use Rattle.std.proofs.Common.{refl, sym, ap, subst, ◌∙◌, arith, take-append-drop, length-append}
use Rattle.std.proofs.Math.Logic.{∥∥₁_elim}
use Rattle.std.proofs.Math.Nat.{ℕ_set}
use Rattle.std.proofs.Math.Bridge.{le_prop}
use Rattle.std.proofs.lemmas.List.{length-drop, length-map}
use Rattle.std.proofs.lemmas.Map.Keys.{IsDistinct-prop}
use Rattle.step_structures.specs.Trees.{Tree, ExchangeRow, rows_of}
use Rattle.step_structures.specs.Fits.{the_rules, FitsRows}
use Rattle.step_structures.proofs.Named.{rows_distinct}
use Rattle.step_exchange.specs.declared.section.Section.{Section}
use Rattle.step_exchange.specs.declared.structure.Exchange.{Exchange}
use Rattle.step_exchange.specs.Sections.{sections_of, CountsTo}
use Rattle.step_exchange.specs.Views.{rows_with}
use Rattle.step_exchange.specs.Exchanges.{structure, ExchangesAreNamed}
use Rattle.step_exchange.proofs.Counts.{counts-prop}

-- sections hold all instances
all-held : (from : ℕ) (ss : List Section) (n : ℕ) (rows : List ExchangeRow) → CountsTo from ss n → n ≡ from + length rows
    → rows_of (sections_of from ss rows) ≡ rows
all-held from [] n [] h e = refl
all-held from [] n (r ∷ rows) h e = absurd (omega (arith, h, e))
all-held from (s ∷ ss) n rows h e =
    let more = all-held s.past ss n (drop (s.past - from) rows) h.1 (left ss (s.past) h.0 h.1) in
    ap (λ l. take (s.past - from) rows ++ l) more ∙ take-append-drop (s.past - from) rows
  where
    least : (ss : List Section) (k : ℕ) → CountsTo k ss n → k ≤ n
    least [] k c = omega (arith, c)
    least (t ∷ ss) k c = let le = least ss t.past c.1 in let lt = c.0 in omega (arith, le, lt)

    left : (ss : List Section) (k : ℕ) → from ≤ k → CountsTo k ss n → n ≡ k + length (drop (k - from) rows)
    left ss k le c = let bound = least ss k c in omega (arith, length-drop (k - from) rows, bound, le, e)

with-length : (ns : List ℕ) (xs : List Tree) → length xs ≡ length ns → length (rows_with ns xs) ≡ length ns
with-length [] [] h = refl
with-length [] (x ∷ xs) h = refl
with-length (n ∷ ns) [] h = absurd (omega (arith, h))
with-length (n ∷ ns) (x ∷ xs) h = let more = with-length ns xs (omega (arith, h)) in omega (arith, more)

pub as-many : (x : Exchange) → length (drop x.header_len x.trees) ≡ length x.names
as-many x = ∥∥₁_elim x.matched (ℕ_set _ _) (λ h. omega (arith, h, length-drop x.header_len x.trees))

pub rows-are : (x : Exchange) → rows_of (structure x).sections ≡ rows_with x.names (drop x.header_len x.trees)
rows-are x =
    all-held 0 x.sections.items (length x.names) (rows_with x.names (drop x.header_len x.trees))
    (∥∥₁_elim x.counted (counts-prop 0 x.sections.items (length x.names)) (λ h. h))
    (let same = with-length x.names (drop x.header_len x.trees) (as-many x) in omega (arith, same))

pub names-of : (ns : List ℕ) (xs : List Tree) → length xs ≡ length ns → map (λ (r : ExchangeRow). r.name) (rows_with ns xs) ≡ ns
names-of [] [] h = refl
names-of [] (x ∷ xs) h = refl
names-of (n ∷ ns) [] h = absurd (omega (arith, h))
names-of (n ∷ ns) (x ∷ xs) h = ap (λ l. n ∷ l) (names-of ns xs (omega (arith, h)))

pub names-are : (x : Exchange) → map (λ (r : ExchangeRow). r.name) (rows_of (structure x).sections) ≡ x.names
names-are x =
    ap (map (λ (r : ExchangeRow). r.name)) (rows-are x) ∙ names-of x.names (drop x.header_len x.trees) (as-many x)

rows_few : (before : List ℕ) (rs : List ExchangeRow) → length before < 2 ^ 32 → FitsRows the_rules before rs
    → length before + length rs < 2 ^ 32
rows_few before [] l h = omega (arith, l)
rows_few before (r ∷ rs) l h =
    let next : length (before ++ r.name ∷ []) < 2 ^ 32 = omega (arith, h.1, length-append before (r.name ∷ [])) in
    let rest = rows_few (before ++ r.name ∷ []) rs next h.3 in
    omega (arith, rest, length-append before (r.name ∷ []))

pub distinct : (x : Exchange) → IsDistinct (◌==◌) x.names
distinct x =
    ∥∥₁_elim x.read (IsDistinct-prop (◌==◌) x.names)
    (λ r. subst (IsDistinct (◌==◌)) (names-are x) (rows_distinct [] (rows_of (structure x).sections) r.1.fits.1.2))

pub few : (x : Exchange) → length x.names < 2 ^ 32
few x =
    ∥∥₁_elim x.read le_prop
    (λ r. let less = rows_few [] (rows_of (structure x).sections) (omega arith) r.1.fits.1.2 in
    omega (arith, less, ap length (sym (names-are x)), length-map (rows_of (structure x).sections) (λ (r : ExchangeRow). r.name)))

pub exchanges-are-named : ExchangesAreNamed
exchanges-are-named x = (names-are x, distinct x, few x)
