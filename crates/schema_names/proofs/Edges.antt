-- Chains by name and by number.
use Rattle.std.specs.Prelude.{◌≡◌, ℕ, ◌<◌, Bool, true, false, ◌||◌, List, [], ◌∷◌, map, Option, None, Some, length, get_or, slice_get, filter_map, eqb, ◌⊎◌}
use Rattle.std.specs.List.{cons_option}
use Rattle.std.proofs.Common.{refl, inl, inr, ap, sym, subst, ◌∙◌, arith, zero, suc}
use Rattle.std.proofs.lemmas.List.{length-map}
use Rattle.std.proofs.lemmas.Bool.Decides.{nat_tests}
use Rattle.graphs.specs.Graphs.{Graph, has, Step, Chain, Leads, Reaches, IsGraph}
use Rattle.express_syntax.specs.Schemas.{Schema, Declaration, type, entity, skipped, Underlying, enumeration, select, data_type, DataType, named}
use Rattle.schema_semantics.specs.Names.{Name, Among, declaration_of, IsSubtypeOf, IsBelow, IsMadeOf, StandsFor}
use Rattle.schema_semantics.proofs.Lists.{leads-kept}
use Rattle.schema_names.specs.Numbers.{number_of, HasNumber}
use Rattle.schema_names.specs.Edges.{IsGraphOf, supertypes_in, parts_in, parts_of}
use Rattle.schema_names.proofs.Numbers.{stands-at, what-stands, each-number}

module _ (s : Schema) (names : Declaration → List Name) where
  -- what m stands for names n
  abbrev pub Names : Name → Name → Type 0
  Names m n = (d : Declaration) × (declaration_of s.declarations m ≡ Some d) × Among n (names d)

  module _ (g : Graph) (h : IsGraphOf s names g) where
    step-forth : (m : Name) (i j : ℕ) → HasNumber s m i → Step g i j → (n : Name) × HasNumber s n j × Names m n
    step-forth m i j k e =
        let (d, at, n, among, number) = (h.edges i j).0 e in
        (n, number, (d, stands-at s m i k ∙ at, among))

    step-back : (m n : Name) (i j : ℕ) → HasNumber s m i → HasNumber s n j → Names m n → Step g i j
    step-back m n i j k l (d, at, among) = (h.edges i j).1 (d, sym (stands-at s m i k) ∙ at, n, among, l)

    chain-forth : (m : Name) (i : ℕ) (is : List ℕ) (j : ℕ) → HasNumber s m i → Chain (Step g) i is j → (n : Name)
        × HasNumber s n j × Leads Names m n
    chain-forth m i [] j k c = let (n, l, r) = step-forth m i j k c in (n, l, ([], r))
    chain-forth m i (x ∷ is) j k c =
        let (p, l, r) = step-forth m i x k c.0 in
        let (n, a, (ns, b)) = chain-forth p x is j l c.1 in
        (n, a, (p ∷ ns, (r, b)))

    first-names : (m : Name) (ns : List Name) (n : Name) → Chain Names m ns n → (d : Declaration)
        × (declaration_of s.declarations m ≡ Some d)
    first-names m [] n c = (c.0, c.1)
    first-names m (x ∷ ns) n c = (c.0.0, c.0.1)

    chain-back : (m : Name) (ns : List Name) (n : Name) (i j : ℕ) → HasNumber s m i → HasNumber s n j
        → Chain Names m ns n → Reaches g i j
    chain-back m [] n i j k l c = ([], step-back m n i j k l c)
    chain-back m (p ∷ ns) n i j k l c =
        let (d, at) = first-names p ns n c.1 in
        let (x, a) = each-number 0 s.declarations p d at in
        let (is, r) = chain-back p ns n x j a l c.1 in
        (x ∷ is, (step-back m p i x k a c.0, r))

    pub reaches-forth : (m : Name) (i j : ℕ) → HasNumber s m i → Reaches g i j → (n : Name) × HasNumber s n j
        × Leads Names m n
    reaches-forth m i j k r = chain-forth m i r.0 j k r.1

    pub reaches-back : (m n : Name) (i j : ℕ) → HasNumber s m i → HasNumber s n j → Leads Names m n → Reaches g i j
    reaches-back m n i j k l r = chain-back m r.0 n i j k l r.1

-- what is named behind SUBTYPE OF
subtype-forth : (s : Schema) (a b : Name) → Names s supertypes_in a b → IsSubtypeOf s a b
subtype-forth s a b (type t, at, m) = elim m [ ]
subtype-forth s a b (entity e, at, m) = (e, at, m)
subtype-forth s a b (skipped p, at, m) = elim m [ ]

subtype-back : (s : Schema) (a b : Name) → IsSubtypeOf s a b → Names s supertypes_in a b
subtype-back s a b (e, at, m) = (entity e, at, m)

pub below-forth : (s : Schema) (g : Graph) (h : IsGraphOf s supertypes_in g) (m : Name) (i j : ℕ) → HasNumber s m i
    → Reaches g i j → (n : Name) × HasNumber s n j × IsBelow s m n
below-forth s g h m i j k r =
    let (n, l, c) = reaches-forth s supertypes_in g h m i j k r in
    (n, l, leads-kept (Names s supertypes_in) (IsSubtypeOf s) (subtype-forth s) m n c)

pub below-back : (s : Schema) (g : Graph) (h : IsGraphOf s supertypes_in g) (m n : Name) (i j : ℕ) → HasNumber s m i
    → HasNumber s n j → IsBelow s m n → Reaches g i j
below-back s g h m n i j k l c =
    reaches-back s supertypes_in g h m n i j k l
    (leads-kept (IsSubtypeOf s) (Names s supertypes_in) (subtype-back s) m n c)

-- what a defined type is made of
parts-forth : (s : Schema) (a b : Name) (u : Underlying) → StandsFor s a u → Among b (parts_of u)
    → IsMadeOf s (named a) (named b)
parts-forth s a b (enumeration items) h m = elim m [ ]
parts-forth s a b (select items) h m = inr (items, h, m)
parts-forth s a b (data_type (named n)) h (inl e) = inl (subst (λ x. StandsFor s a (data_type (named x))) e h)
parts-forth s a b (data_type (named n)) h (inr m) = elim m [ ]
parts-forth s a b (data_type k) h m = elim m [ ]

made-forth : (s : Schema) (a b : Name) → Names s parts_in a b → IsMadeOf s (named a) (named b)
made-forth s a b (type t, at, m) = parts-forth s a b t.underlying (t, at, refl) m
made-forth s a b (entity e, at, m) = elim m [ ]
made-forth s a b (skipped p, at, m) = elim m [ ]

made-back : (s : Schema) (a b : Name) → IsMadeOf s (named a) (named b) → Names s parts_in a b
made-back s a b (inl (t, at, e)) = (type t, at, subst (λ u. Among b (parts_of u)) (sym e) (inl refl))
made-back s a b (inr (items, (t, at, e), m)) = (type t, at, subst (λ u. Among b (parts_of u)) (sym e) m)

-- from name to name there are names alone between
pub is-name : (s : Schema) (k l : DataType) → IsMadeOf s k l → (a : Name) × (k ≡ named a)
is-name s (named a) l h = (a, refl)
is-name s k l (inl h) = absurd h
is-name s k l (inr h) = absurd h

pub first-name : (s : Schema) (k : DataType) (ks : List DataType) (l : DataType)
    → Chain (IsMadeOf s) k ks l → (a : Name) × (k ≡ named a)
first-name s k [] l c = is-name s k l c
first-name s k (m ∷ ks) l c = is-name s k m c.0

to-names : (s : Schema) (m : Name) (ks : List DataType) (n : Name) → Chain (IsMadeOf s) (named m) ks (named n)
    → Leads (Names s parts_in) m n
to-names s m [] n c = ([], made-back s m n c)
to-names s m (k ∷ ks) n c =
    let (a, e) = first-name s k ks (named n) c.1 in
    let (ns, r) = to-names s a ks n (subst (λ x. Chain (IsMadeOf s) x ks (named n)) e c.1) in
    (a ∷ ns, (made-back s m a (subst (IsMadeOf s (named m)) e c.0), r))

from-names : (s : Schema) (m : Name) (ns : List Name) (n : Name) → Chain (Names s parts_in) m ns n
    → Chain (IsMadeOf s) (named m) (map named ns) (named n)
from-names s m [] n c = made-forth s m n c
from-names s m (x ∷ ns) n c = (made-forth s m x c.0, from-names s x ns n c.1)

pub made-of-forth : (s : Schema) (g : Graph) (h : IsGraphOf s parts_in g) (m : Name) (i j : ℕ) → HasNumber s m i
    → Reaches g i j → (n : Name) × HasNumber s n j × Leads (IsMadeOf s) (named m) (named n)
made-of-forth s g h m i j k r =
    let (n, l, (ns, c)) = reaches-forth s parts_in g h m i j k r in (n, l, (map named ns, from-names s m ns n c))

pub made-of-back : (s : Schema) (g : Graph) (h : IsGraphOf s parts_in g) (m n : Name) (i j : ℕ) → HasNumber s m i
    → HasNumber s n j → Leads (IsMadeOf s) (named m) (named n) → Reaches g i j
made-of-back s g h m n i j k l (ks, c) = reaches-back s parts_in g h m n i j k l (to-names s m ks n c)

-- rows of numbers
either : (p q : Bool) → (p || q) ≡ true → (p ≡ true) ⊎ (q ≡ true)
either true q h = inl refl
either false q h = inr h

left-holds : (p q : Bool) → p ≡ true → (p || q) ≡ true
left-holds p q h = rw h

right-holds : (p q : Bool) → q ≡ true → (p || q) ≡ true
right-holds true q h = refl
right-holds false q h = h

in-front : (o : Option ℕ) (js : List ℕ) (j : ℕ) → has (cons_option o js) j ≡ true → (o ≡ Some j) ⊎ (has js j ≡ true)
in-front None js j h = inr h
in-front (Some i) js j h = first (either (eqb j i) (has js j) h)
  where
    first : (eqb j i ≡ true) ⊎ (has js j ≡ true) → (Some i ≡ Some j) ⊎ (has js j ≡ true)
    first (inl e) = let same : i ≡ j = grind (arith, nat_tests) in inl (ap Some same)
    first (inr h) = inr h

is-front : (o : Option ℕ) (js : List ℕ) (j : ℕ) → o ≡ Some j → has (cons_option o js) j ≡ true
is-front None js j e = absurd (cc)
is-front (Some i) js j e =
    let same : i ≡ j = cc in
    let test : eqb j i ≡ true = grind (arith, nat_tests) in
    left-holds (eqb j i) (has js j) test

is-behind : (o : Option ℕ) (js : List ℕ) (j : ℕ) → has js j ≡ true → has (cons_option o js) j ≡ true
is-behind None js j h = h
is-behind (Some i) js j h = right-holds (eqb j i) (has js j) h

module _ (f : Name → Option ℕ) where
  from-numbers : (ns : List Name) (j : ℕ) → has (filter_map f ns) j ≡ true → (n : Name) × Among n ns × (f n ≡ Some j)
  from-numbers [] j h = absurd (cc)
  from-numbers (n ∷ ns) j h = which (in-front (f n) (filter_map f ns) j h) (from-numbers ns j)
    where
      which : (f n ≡ Some j) ⊎ (has (filter_map f ns) j ≡ true)
          → (has (filter_map f ns) j ≡ true → (x : Name) × Among x ns × (f x ≡ Some j))
          → (x : Name) × Among x (n ∷ ns) × (f x ≡ Some j)
      which (inl e) more = (n, inl refl, e)
      which (inr h) more = let (x, m, e) = more h in (x, inr m, e)

  among-numbers : (ns : List Name) (n : Name) (j : ℕ) → Among n ns → f n ≡ Some j → has (filter_map f ns) j ≡ true
  among-numbers [] n j m e = elim m [ ]
  among-numbers (x ∷ ns) n j (inl same) e = is-front (f x) (filter_map f ns) j (ap f same ∙ e)
  among-numbers (x ∷ ns) n j (inr m) e = is-behind (f x) (filter_map f ns) j (among-numbers ns n j m e)

module _ (F : Declaration → List ℕ) where
  from-row : (ds : List Declaration) (i j : ℕ) → has (get_or (map F ds) i []) j ≡ true → (d : Declaration)
      × (slice_get ds i ≡ Some d) × (has (F d) j ≡ true)
  from-row [] zero j h = absurd (cc)
  from-row [] (suc i) j h = absurd (cc)
  from-row (d ∷ ds) zero j h = (d, refl, h)
  from-row (d ∷ ds) (suc i) j h = from-row ds i j h

  in-row : (ds : List Declaration) (i j : ℕ) (d : Declaration) → slice_get ds i ≡ Some d → has (F d) j ≡ true
      → has (get_or (map F ds) i []) j ≡ true
  in-row [] i j d e h = absurd (cc)
  in-row (x ∷ ds) zero j d e h = let same : x ≡ d = cc in subst (λ y. has (F y) j ≡ true) (sym same) h
  in-row (x ∷ ds) (suc i) j d e h = in-row ds i j d e h

row-is : (F : Declaration → List ℕ) (ds : List Declaration) (i : ℕ) (d : Declaration) → slice_get ds i ≡ Some d
    → get_or (map F ds) i [] ≡ F d
row-is F [] i d at = absurd (cc)
row-is F (x ∷ ds) zero d at = let same : x ≡ d = cc in ap F same
row-is F (x ∷ ds) (suc i) d at = row-is F ds i d at

pub within : {A : Type 0} (xs : List A) (i : ℕ) (x : A) → slice_get xs i ≡ Some x → i < length xs
within [] i x e = absurd (cc)
within (y ∷ ys) zero x e = omega arith
within (y ∷ ys) (suc i) x e = let rest = within ys i x e in omega arith

-- rows of the numbers of names are such a graph
pub graph-of : (s : Schema) (names : Declaration → List Name) (g : Graph)
    → g ≡ map (λ (d : Declaration). filter_map (number_of s) (names d)) s.declarations → IsGraphOf s names g
graph-of s names g e = record {
  same = ap length e ∙ length-map s.declarations F;
  rows = λ i d at. ap (λ (rows : Graph). get_or rows i []) e ∙ row-is F s.declarations i d at;
  edges = λ i j. (
    (λ step.
        let (d, at, h) = from-row F s.declarations i j (subst (λ (rows : Graph). Step rows i j) e step) in
        let (n, m, k) = from-numbers (number_of s) (names d) j h in
        (d, at, n, m, k)),
    (λ (d, at, n, m, k).
        subst (λ (rows : Graph). Step rows i j) (sym e)
        (in-row F s.declarations i j d at (among-numbers (number_of s) (names d) n j m k))),
  );
}
  where
    F : Declaration → List ℕ
    F d = filter_map (number_of s) (names d)

-- a number is that of a declaration
pub number-within : (s : Schema) (n : Name) (j : ℕ) → HasNumber s n j → j < length s.declarations
number-within s n j h = let (d, at, called) = what-stands s n j h in within s.declarations j d at

pub is-graph : (s : Schema) (names : Declaration → List Name) (g : Graph) → IsGraphOf s names g → IsGraph g
is-graph s names g h i j step =
    let (d, at, n, m, k) = (h.edges i j).0 step in
    let lt = number-within s n j k in
    let same = h.same in
    omega (arith, lt, same)
