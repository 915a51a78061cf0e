-- Which entries stand for SELECTs, and what the items of a SELECT are.
use Rattle.std.specs.Prelude.{◌≡◌, ℕ, ◌+◌, Bool, true, false, List, [], ◌∷◌, Option, None, Some}
use Rattle.std.proofs.Common.{refl, inl, inr, ap, sym, subst, ◌∙◌}
use Rattle.graphs.specs.Graphs.{Graph, next, Step, Chain, Leads}
use Rattle.graphs.specs.Orders.{IsTopologicalOrder}
use Rattle.express_syntax.specs.Schemas.{Schema, Declaration, type, entity, skipped, TypeDeclaration, Underlying, enumeration, select, data_type, DataType, named, array, list, bag, set}
use Rattle.schema_semantics.specs.Names.{Name, Among, StandsFor, IsTypeAt, Renames, IsMadeOf}
use Rattle.schema_semantics.specs.Shapes.{IsSelect, IsOverSelect}
use Rattle.schema_semantics.specs.Faults.{IsResolved}
use Rattle.schema_semantics.proofs.Lists.{last-step}
use Rattle.schema_names.specs.Numbers.{number_of, HasNumber, IsAt, AreNumberRowsOf}
use Rattle.schema_names.specs.Edges.{IsGraphOf, parts_in, parts_of}
use Rattle.schema_names.proofs.Numbers.{stands-at, each-number, one-name}
use Rattle.schema_names.proofs.Edges.{number-within}
use Rattle.schema_data_types.specs.NumberedTypes.{all_data_types, whole_types}
use Rattle.conformance.specs.Bases.{OpensTo, IsItem}
use Rattle.schema_underlying_types.specs.declared.base.Base.{Base}
use Rattle.schema_underlying_types.specs.declared.base.Aggregate.{Aggregate}
use Rattle.schema_underlying_types.specs.BaseEntries.{entry, entry_of, named_in, is_known, if_known, base_in, base_behind, base_at, first_of, AreMade, is_select, is_select_at, OpenStep, AreItems}
use Rattle.schema_underlying_types.proofs.Known.{known-behind, known-number, item-known}
use Rattle.schema_underlying_types.proofs.Domains.{step-to, rises}

over-back : (s : Schema) (k m : DataType) → Renames s k m → IsOverSelect s m → IsOverSelect s k
over-back s k m h (n, inl e, sel) = (n, inr ([], subst (Renames s k) e h), sel)
over-back s k m h (n, inr (ms, c), sel) = (n, inr (m ∷ ms, (h, c)), sel)

renames-name : (s : Schema) (k l : DataType) → Renames s k l → (a : Name) × (k ≡ named a)
renames-name s (named a) l h = (a, refl)
renames-name s k l h = absurd h

first-renamed : (s : Schema) (k : DataType) (ms : List DataType) (l : DataType) → Chain (Renames s) k ms l
    → (a : Name) × (k ≡ named a)
first-renamed s k [] l c = renames-name s k l c
first-renamed s k (m ∷ ms) l c = renames-name s k m c.0

name-of : (a b : Name) → named a ≡ named b → a ≡ b
name-of a b e = cc

made-number : (s : Schema) (p : Name) (l : DataType) → IsMadeOf s (named p) l → (i : ℕ) × HasNumber s p i
made-number s p l (inl (t, at, e)) = each-number 0 s.declarations p (type t) at
made-number s p (named q) (inr (items, (t, at, e), m)) = each-number 0 s.declarations p (type t) at
made-number s p l (inr h) = absurd h

-- a name behind another, by its number
made-from : (s : Schema) (m n : Name) (i : ℕ) (d : Declaration) → HasNumber s m i → IsAt s i d → Among n (parts_in d)
    → IsMadeOf s (named m) (named n)
made-from s m n i (type t) k at among = by t.underlying refl among
  where
    by : (u : Underlying) → t.underlying ≡ u → Among n (parts_of u) → IsMadeOf s (named m) (named n)
    by (enumeration items) e h = elim h [ ]
    by (select items) e h = inr (items, (t, stands-at s m i k ∙ at, e), h)
    by (data_type (named x)) e (inl same) =
        inl (t, stands-at s m i k ∙ at, e ∙ ap (λ y. data_type (named y)) same)
    by (data_type (named x)) e (inr h) = elim h [ ]
    by (data_type k) e h = elim h [ ]
made-from s m n i (entity e) k at h = elim h [ ]
made-from s m n i (skipped p) k at h = elim h [ ]

made-to : (s : Schema) (m n : Name) → IsMadeOf s (named m) (named n) → (t : TypeDeclaration) × IsTypeAt s m t
    × Among n (parts_of t.underlying)
made-to s m n (inl (t, at, e)) = (t, at, subst (λ u. Among n (parts_of u)) (sym e) (inl refl))
made-to s m n (inr (items, (t, at, e), among)) = (t, at, subst (λ u. Among n (parts_of u)) (sym e) among)

first-opened : (s : Schema) (m : Name) (ns : List Name) (n : Name) → Chain (OpensTo s) m ns n → (i : ℕ)
    × HasNumber s m i
first-opened s m [] n c = made-number s m (named n) c.1
first-opened s m (x ∷ ns) n c = made-number s m (named x) c.0.1

-- a SELECT and its items are declared
pub item-first : (s : Schema) (m n : Name) → IsItem s m n → (i : ℕ) × HasNumber s m i
item-first s m n ((ns, c), other) = first-opened s m ns n c

part-known : (s : Schema) → IsResolved s → (p n : Name) → IsMadeOf s (named p) (named n) → (j : ℕ) × HasNumber s n j
part-known s r p n (inl stands) = known-number s n (known-behind s r p (named n) stands)
part-known s r p n (inr (items, stands, among)) = item-known s r p items stands n among

pub item-last : (s : Schema) → IsResolved s → (m n : Name) → IsItem s m n → (j : ℕ) × HasNumber s n j
item-last s r m n (way, other) = let (p, q) = last-step (OpensTo s) m n way in part-known s r p n q.1

module _ (s : Schema) (r : IsResolved s) (g : Graph) (h : IsGraphOf s parts_in g) (order : List ℕ)
    (o : IsTopologicalOrder g order) (rows : Graph)
    (each : AreNumberRowsOf whole_types (all_data_types s) s.declarations rows) (declared : List Base)
    (made : AreMade s rows declared) where
  no-aggregate : (b : Bool) (a : Aggregate) → is_select (if_known b a) ≡ true → ⊥
  no-aggregate true a e = cc
  no-aggregate false a e = cc

  -- a data type that stands for a SELECT has the name of what does
  select-named : (k : DataType) (b : Bool) (e : ℕ) → is_select (base_in b (named_in s declared k) e k) ≡ true
      → (n : Name) × (k ≡ named n) × (j : ℕ) × HasNumber s n j × (is_select_at declared j ≡ true)
  select-named (named n) b e q = by (number_of s n) refl q
    where
      by : (p : Option ℕ) → number_of s n ≡ p → is_select (entry_of declared p) ≡ true → (x : Name)
          × (named n ≡ named x) × (j : ℕ) × HasNumber s x j × (is_select_at declared j ≡ true)
      by None l q = absurd (cc)
      by (Some j) l q = (n, refl, j, l, q)
  select-named (array bs x u k) b e q = absurd (no-aggregate b _ q)
  select-named (list bs u k) b e q = absurd (no-aggregate b _ q)
  select-named (bag bs k) b e q = absurd (no-aggregate b _ q)
  select-named (set bs k) b e q = absurd (no-aggregate b _ q)
  select-named k b e q = absurd (cc)

  abbrev IsTold : ℕ → Type 0
  IsTold i = (m : Name) → HasNumber s m i → is_select_at declared i ≡ true → IsOverSelect s (named m)

  told-behind : (i : ℕ) (t : TypeDeclaration) (u : Underlying) → IsAt s i (type t) → t.underlying ≡ u
      → ((j : ℕ) → Step g i j → IsTold j) → (m : Name) → HasNumber s m i
      → is_select (base_behind s (named_in s declared) (first_of (next rows i)) i u) ≡ true → IsOverSelect s (named m)
  told-behind i t (enumeration items) at e below m k q = absurd (cc)
  told-behind i t (select items) at e below m k q = (m, inl refl, (items, (t, stands-at s m i k ∙ at, e)))
  told-behind i t (data_type x) at e below m k q =
      let (n, same, j, l, sel) = select-named x (is_known s x) (first_of (next rows i) + 1) q in
      let is = e ∙ ap data_type same in
      over-back s (named m) (named n) (t, stands-at s m i k ∙ at, is)
      (below j (step-to s r g h order o rows each declared made i j n t at is l) n l sel)

  told-at : (i : ℕ) (d : Declaration) → IsAt s i d → ((j : ℕ) → Step g i j → IsTold j) → (m : Name) → HasNumber s m i
      → is_select (base_at s (named_in s declared) (first_of (next rows i)) i d) ≡ true → IsOverSelect s (named m)
  told-at i (type t) at below m k q = told-behind i t t.underlying at refl below m k q
  told-at i (entity e) at below m k q = absurd (cc)
  told-at i (skipped p) at below m k q = absurd (cc)

  pub over-forth : (i : ℕ) (m : Name) → HasNumber s m i → is_select_at declared i ≡ true → IsOverSelect s (named m)
  over-forth i m k q =
      rises s r g h order o rows each declared made IsTold
      (λ j d at below n l e. told-at j d at below n l (ap is_select (sym (made j d at)) ∙ e)) i
      (number-within s m i k) m k q

  -- what a name stands for is what it renames
  entry-at : (m : Name) (i : ℕ) (t : TypeDeclaration) (u : Underlying) → HasNumber s m i → IsTypeAt s m t
      → t.underlying ≡ u
      → entry declared i ≡ base_behind s (named_in s declared) (first_of (next rows i)) i u
  entry-at m i t u k at e =
      made i (type t) (sym (stands-at s m i k) ∙ at)
      ∙ ap (base_behind s (named_in s declared) (first_of (next rows i)) i) e

  renamed-entry : (m n : Name) (i j : ℕ) → HasNumber s m i → HasNumber s n j → StandsFor s m (data_type (named n))
      → entry declared i ≡ entry declared j
  renamed-entry m n i j k l (t, at, e) =
      entry-at m i t (data_type (named n)) k at e ∙ ap (entry_of declared) l

  select-entry : (m : Name) (i : ℕ) → HasNumber s m i → IsSelect s m → is_select_at declared i ≡ true
  select-entry m i k (items, (t, at, e)) = ap is_select (entry-at m i t (select items) k at e)

  along : (m n : Name) (ms : List DataType) (i : ℕ) → HasNumber s m i → Chain (Renames s) (named m) ms (named n)
      → IsSelect s n → is_select_at declared i ≡ true
  along m n [] i k c sel =
      let (j, l) = known-number s n (known-behind s r m (named n) c) in
      ap is_select (renamed-entry m n i j k l c) ∙ select-entry n j l sel
  along m n (x ∷ ms) i k c sel =
      let (a, e) = first-renamed s x ms (named n) c.1 in
      let step : Renames s (named m) (named a) = subst (Renames s (named m)) e c.0 in
      let (j, l) = known-number s a (known-behind s r m (named a) step) in
      ap is_select (renamed-entry m a i j k l step)
      ∙ along a n ms j l (subst (λ y. Chain (Renames s) y ms (named n)) e c.1) sel

  pub over-back-at : (i : ℕ) (m : Name) → HasNumber s m i → IsOverSelect s (named m) → is_select_at declared i ≡ true
  over-back-at i m k (n, inl e, sel) = select-entry m i k (subst (IsSelect s) (sym (name-of m n e)) sel)
  over-back-at i m k (n, inr (ms, c), sel) = along m n ms i k c sel

  -- steps by number and by name
  step-forth : (m : Name) (i j : ℕ) → HasNumber s m i → OpenStep declared g i j → (n : Name) × HasNumber s n j
      × OpensTo s m n
  step-forth m i j k (sel, step) =
      let (d, at, n, among, l) = (h.edges i j).0 step in
      (n, l, (over-forth i m k sel, made-from s m n i d k at among))

  step-back : (m n : Name) (i j : ℕ) → HasNumber s m i → HasNumber s n j → OpensTo s m n → OpenStep declared g i j
  step-back m n i j k l (over, by) =
      let (t, at, among) = made-to s m n by in
      (over-back-at i m k over, (h.edges i j).1 (type t, sym (stands-at s m i k) ∙ at, n, among, l))

  chain-forth : (m : Name) (i : ℕ) (is : List ℕ) (j : ℕ) → HasNumber s m i → Chain (OpenStep declared g) i is j
      → (n : Name) × HasNumber s n j × Leads (OpensTo s) m n
  chain-forth m i [] j k c = let (n, l, q) = step-forth m i j k c in (n, l, ([], q))
  chain-forth m i (x ∷ is) j k c =
      let (p, l, q) = step-forth m i x k c.0 in
      let (n, a, (ns, b)) = chain-forth p x is j l c.1 in (n, a, (p ∷ ns, (q, b)))

  chain-back : (m : Name) (ns : List Name) (n : Name) (i j : ℕ) → HasNumber s m i → HasNumber s n j
      → Chain (OpensTo s) m ns n → Leads (OpenStep declared g) i j
  chain-back m [] n i j k l c = ([], step-back m n i j k l c)
  chain-back m (p ∷ ns) n i j k l c =
      let (x, a) = first-opened s p ns n c.1 in
      let (is, b) = chain-back p ns n x j a l c.1 in (x ∷ is, (step-back m p i x k a c.0, b))

  not-true : (b : Bool) → (b ≡ true → ⊥) → b ≡ false
  not-true true none = absurd (none refl)
  not-true false none = refl

  module _ (found : Graph) (are : AreItems declared g found) where
    pub item-forth : (m n : Name) (i j : ℕ) → HasNumber s m i → HasNumber s n j → Step found i j → IsItem s m n
    item-forth m n i j k l step =
        let ((is, c), other) = (are.reached i j).0 step in
        let (x, a, way) = chain-forth m i is j k c in (
          subst (Leads (OpensTo s) m) (one-name s x n j a l) way,
          λ over. (let q = over-back-at j n l over in absurd (let p : true ≡ false = sym q ∙ other in cc)),
        )

    pub item-back : (m n : Name) (i j : ℕ) → HasNumber s m i → HasNumber s n j → IsItem s m n → Step found i j
    item-back m n i j k l ((ns, c), other) =
        (are.reached i j).1 (
          chain-back m ns n i j k l c,
          not-true (is_select_at declared j) (λ q. other (over-forth j n l q)),
        )
