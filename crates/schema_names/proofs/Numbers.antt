-- What numbers say.
use Rattle.std.specs.Prelude.{◌≡◌, ℕ, ◌+◌, Bool, true, false, cond, List, [], ◌∷◌, Option, None, Some, slice_get}
use Rattle.std.proofs.Common.{refl, ap, sym, subst, ◌∙◌, suc, arith}
use Rattle.std.proofs.lemmas.Slice.Eq.{bytes_eq-Decides}
use Rattle.express_syntax.specs.Schemas.{Schema, Declaration}
use Rattle.schema_semantics.specs.Names.{Name, declared_name, is_named, declaration_of}
use Rattle.schema_names.specs.Numbers.{number_from, HasNumber, IsAt, NumbersStand}

-- i is k and the place of the first declaration of the name n
pub record NumberAt (k : ℕ) (ds : List Declaration) (n : Name) (i : ℕ) : Type 0 where
  pub place : ℕ
  pub counted : i ≡ k + place
  pub stands : declaration_of ds n ≡ slice_get ds place
  pub what : Declaration
  pub here : slice_get ds place ≡ Some what
  pub named : declared_name what ≡ Some n

pub named-is : (n : Name) (o : Option Name) → is_named n o ≡ true → o ≡ Some n
named-is n None e = absurd (cc)
named-is n (Some m) e = ap Some ((bytes_eq-Decides m n).0 e)

one-number : (k i : ℕ) → Some k ≡ Some i → i ≡ k + 0
one-number k i e = let same : k ≡ i = cc in omega (arith, same)

at-front : (b : Bool) (k : ℕ) (d : Declaration) (ds : List Declaration) (n : Name) (i : ℕ)
    → is_named n (declared_name d) ≡ b → cond b (Some k) (number_from (k + 1) ds n) ≡ Some i
    → (number_from (k + 1) ds n ≡ Some i → NumberAt (k + 1) ds n i) → NumberAt k (d ∷ ds) n i
at-front true k d ds n i e h more = record {
  place = 0;
  counted = one-number k i h;
  stands = ap (λ c. cond c (Some d) (declaration_of ds n)) e;
  what = d;
  here = refl;
  named = named-is n (declared_name d) e;
}
at-front false k d ds n i e h more =
    let r = more h in
    let counted : i ≡ k + 1 + r.place = r.counted in
    record {
      place = suc r.place;
      counted = omega (arith, counted);
      stands = ap (λ c. cond c (Some d) (declaration_of ds n)) e ∙ r.stands;
      what = r.what;
      here = r.here;
      named = r.named;
    }

pub number-at : (k : ℕ) (ds : List Declaration) (n : Name) (i : ℕ) → number_from k ds n ≡ Some i → NumberAt k ds n i
number-at k [] n i h = absurd (cc)
number-at k (d ∷ ds) n i h = at-front (is_named n (declared_name d)) k d ds n i refl h (number-at (k + 1) ds n i)

has-number : (b : Bool) (k : ℕ) (d x : Declaration) (ds : List Declaration) (n : Name)
    → cond b (Some d) (declaration_of ds n) ≡ Some x
    → (declaration_of ds n ≡ Some x → (i : ℕ) × (number_from (k + 1) ds n ≡ Some i))
    → (i : ℕ) × (cond b (Some k) (number_from (k + 1) ds n) ≡ Some i)
has-number true k d x ds n h more = (k, refl)
has-number false k d x ds n h more = more h

pub each-number : (k : ℕ) (ds : List Declaration) (n : Name) (x : Declaration) → declaration_of ds n ≡ Some x
    → (i : ℕ) × (number_from k ds n ≡ Some i)
each-number k [] n x h = absurd (cc)
each-number k (d ∷ ds) n x h = has-number (is_named n (declared_name d)) k d x ds n h (each-number (k + 1) ds n x)

-- of a schema
pub at-number : (s : Schema) (n : Name) (i : ℕ) → HasNumber s n i → NumberAt 0 s.declarations n i
at-number s n i h = number-at 0 s.declarations n i h

pub place-is : (s : Schema) (n : Name) (i : ℕ) (h : NumberAt 0 s.declarations n i) → h.place ≡ i
place-is s n i h = let counted = h.counted in omega (arith, counted)

-- what is declared there
pub what-stands : (s : Schema) (n : Name) (i : ℕ) → HasNumber s n i → (d : Declaration) × IsAt s i d
    × (declared_name d ≡ Some n)
what-stands s n i h =
    let r = at-number s n i h in
    (r.what, subst (λ j. slice_get s.declarations j ≡ Some r.what) (place-is s n i r) r.here, r.named)

pub stands-at : (s : Schema) (n : Name) (i : ℕ) → HasNumber s n i
    → declaration_of s.declarations n ≡ slice_get s.declarations i
stands-at s n i h =
    let r = at-number s n i h in
    subst (λ j. declaration_of s.declarations n ≡ slice_get s.declarations j) (place-is s n i r) r.stands

pub one-name : (s : Schema) (m n : Name) (i : ℕ) → HasNumber s m i → HasNumber s n i → m ≡ n
one-name s m n i h k =
    let (d, at, named) = what-stands s m i h in
    let (e, here, called) = what-stands s n i k in
    let same : d ≡ e = some-is d e (sym at ∙ here) in
    name-is m n (sym named ∙ ap declared_name same ∙ called)
  where
    some-is : (d e : Declaration) → Some d ≡ Some e → d ≡ e
    some-is d e h = cc

    name-is : (m n : Name) → Some m ≡ Some n → m ≡ n
    name-is m n h = cc

pub numbers-stand : (s : Schema) → NumbersStand s
numbers-stand s = record {
  at = stands-at s;
  each = each-number 0 s.declarations;
  one = one-name s;
}
