-- The entries are what the functions of a schema say, and there are such functions.
use Rattle.std.specs.Prelude.{◌≡◌, ℕ, ◌+◌, ◌<◌, ℤ, Bool, true, false, List, [], ◌∷◌, Option, None, Some, slice_get, get_or, length}
use Rattle.std.specs.Option.{option_map}
use Rattle.std.proofs.Common.{refl, inl, inr, ap, sym, subst, ◌∙◌, arith, zero, suc}
use Rattle.std.proofs.lemmas.Option.{slice_get-get_or}
use Rattle.graphs.specs.Graphs.{Graph, next, Step}
use Rattle.graphs.specs.Orders.{IsTopologicalOrder}
use Rattle.express_syntax.specs.Schemas.{Schema, Bound, Bounds, Width, Declaration, type, entity, skipped, TypeDeclaration, Entity, Skipped, constants, Underlying, enumeration, select, data_type, DataType, integer, number, boolean, logical, real, string, binary, named, array, list, bag, set}
use Rattle.express_syntax.specs.Profile.{Every}
use Rattle.schema_semantics.specs.Names.{Name, Among, types, type_declarations_of, entities, entities_of, declared_name}
use Rattle.schema_semantics.specs.Faults.{IsResolved}
use Rattle.schema_semantics.proofs.Lists.{every-at, every-of}
use Rattle.schema_names.specs.Numbers.{number_of, HasNumber, IsAt, AreAt, AreNumberRowsOf}
use Rattle.schema_names.specs.Edges.{IsGraphOf, parts_in, parts_of}
use Rattle.schema_names.proofs.Numbers.{stands-at, what-stands, one-name}
use Rattle.schema_names.proofs.Edges.{number-within}
use Rattle.schema_names.proofs.Items.{front-at, row-at}
use Rattle.schema_data_types.specs.NumberedTypes.{all_data_types, whole_types, whole_underlying}
use Rattle.schema_explicit_attributes.proofs.OwnNumbers.{own-number-of}
use Rattle.conformance.specs.Bases.{Domain, IsDomain, base, base_of_underlying, limit, lower_bound, upper_bound, Limit}
use Rattle.conformance.specs.Bases as conformance
use Rattle.schema_underlying_types.specs.declared.base.Base.{Base}
use Rattle.schema_underlying_types.specs.declared.base.Aggregate.{Aggregate}
use Rattle.schema_underlying_types.specs.BaseViews.{name_at, name_in, items_in, items_of, or_empty, base_seen, aggregate_seen, limit_seen}
use Rattle.schema_underlying_types.specs.Tables.{NamesKnownType, IsNumberedBase}
use Rattle.schema_underlying_types.specs.steps.Measures.{bound_in, lower_in, upper_in, width_in}
use Rattle.schema_underlying_types.specs.BaseEntries.{entry, entry_of, named_in, is_known, if_known, limit_in, limited, base_in, base_of, base_behind, base_at, first_of, AreMade}
use Rattle.schema_underlying_types.proofs.Whole.{bound-is, width-is}
use Rattle.schema_underlying_types.proofs.Made.{all-ordered}
use Rattle.schema_underlying_types.proofs.Known.{climb, known-back, known-behind, known-number, HasElement, element-at, base-numbered}

-- the functions that bounds and widths are
pub record Measures (d : Domain) : Type 0 where
  pub bounds : (b : Bound) → d.bound b ≡ bound_in b
  pub widths : (w : Width) → d.width w ≡ width_in w

pub measures-of : (s : Schema) (d : Domain) → IsDomain s d → Measures d
measures-of s d is = record {
  bounds = λ b. bound-is b (d.bound b) (is.bounds b);
  widths = λ w. width-is w (d.width w) (is.widths w);
}

module _ (s : Schema) (d : Domain) (m : Measures d) where
  lower-same : (b : Option Bounds) → lower_in b ≡ lower_bound d b
  lower-same None = refl
  lower-same (Some b) = sym (m.bounds b.lower)

  upper-same : (b : Option Bounds) → upper_in b ≡ upper_bound d b
  upper-same None = refl
  upper-same (Some b) = sym (m.bounds b.upper)

  limit-same : (w : Option (Width × Bool)) → option_map limit_seen (limit_in w) ≡ limit d w
  limit-same None = refl
  limit-same (Some w) =
      by (width_in w.0)
      ∙ ap (option_map (λ (n : ℤ). record { most = n; fixed = w.1 })) (sym (m.widths w.0))
    where
      by : (o : Option ℤ) → option_map limit_seen (option_map (limited w.1) o)
          ≡ option_map (λ (n : ℤ). record { most = n; fixed = w.1 }) o
      by None = refl
      by (Some n) = refl

  aggregate-same : (b : Bool) (a : Aggregate) (c : conformance.Aggregate) → b ≡ true
      → aggregate_seen s a ≡ c → base_seen s (if_known b a) ≡ conformance.aggregate c
  aggregate-same true a c e is = ap conformance.aggregate is
  aggregate-same false a c e is = absurd (cc)

  abbrev aggregate_with : conformance.AggregateKind → Bool → Bool → Option ℤ → Option ℤ → DataType
      → conformance.Aggregate
  aggregate_with collection optional unique l u k = record {
    collection = collection;
    lower = l;
    upper = u;
    optional = optional;
    unique = unique;
    element = k;
  }

  aggregate-is : (collection : conformance.AggregateKind) (optional unique : Bool) (l l' u u' : Option ℤ)
      (k k' : DataType) → l ≡ l' → u ≡ u' → k ≡ k'
      → aggregate_with collection optional unique l u k ≡ aggregate_with collection optional unique l' u' k'
  aggregate-is collection optional unique l l' u u' k k' e f g =
      λ i. aggregate_with collection optional unique (e i) (f i) (g i)

  -- an entry says what its data type asks
  pub base-same : (k : DataType) (b : Base) (e : ℕ) → NamesKnownType s k → HasElement s k e
      → ((n : Name) → k ≡ named n → base_seen s b ≡ d.of_name n)
      → base_seen s (base_in (is_known s k) b e k) ≡ base d k
  base-same integer b e known at is = refl
  base-same number b e known at is = refl
  base-same boolean b e known at is = refl
  base-same logical b e known at is = refl
  base-same (real w) b e known at is = refl
  base-same (string w) b e known at is = ap conformance.string (limit-same w)
  base-same (binary w) b e known at is = ap conformance.binary (limit-same w)
  base-same (named n) b e known at is = is n refl
  base-same (array bs o u k) b e known at is =
      aggregate-same (is_known s k) _ _ (known-back s k known)
      (aggregate-is conformance.array o u _ _ _ _ _ _ (sym (m.bounds bs.lower)) (sym (m.bounds bs.upper)) (at k refl))
  base-same (list bs u k) b e known at is =
      aggregate-same (is_known s k) _ _ (known-back s k known)
      (aggregate-is conformance.list false u _ _ _ _ _ _ (lower-same bs) (upper-same bs) (at k refl))
  base-same (bag bs k) b e known at is =
      aggregate-same (is_known s k) _ _ (known-back s k known)
      (aggregate-is conformance.bag false false _ _ _ _ _ _ (lower-same bs) (upper-same bs) (at k refl))
  base-same (set bs k) b e known at is =
      aggregate-same (is_known s k) _ _ (known-back s k known)
      (aggregate-is conformance.set false true _ _ _ _ _ _ (lower-same bs) (upper-same bs) (at k refl))

-- what is declared
pub type-among : (ds : List Declaration) (i : ℕ) (t : TypeDeclaration) → slice_get ds i ≡ Some (type t)
    → Among t (type_declarations_of ds)
type-among [] i t h = absurd (cc)
type-among (x ∷ ds) zero t h =
    let same : x ≡ type t = cc in subst (λ y. Among t (type_declarations_of (y ∷ ds))) (sym same) (inl refl)
type-among (type x ∷ ds) (suc i) t h = inr (type-among ds i t h)
type-among (entity x ∷ ds) (suc i) t h = type-among ds i t h
type-among (skipped p ∷ ds) (suc i) t h = type-among ds i t h

pub entity-among : (ds : List Declaration) (i : ℕ) (e : Entity) → slice_get ds i ≡ Some (entity e)
    → Among e (entities_of ds)
entity-among [] i e h = absurd (cc)
entity-among (x ∷ ds) zero e h =
    let same : x ≡ entity e = cc in subst (λ y. Among e (entities_of (y ∷ ds))) (sym same) (inl refl)
entity-among (type x ∷ ds) (suc i) e h = entity-among ds i e h
entity-among (entity x ∷ ds) (suc i) e h = inr (entity-among ds i e h)
entity-among (skipped p ∷ ds) (suc i) e h = entity-among ds i e h

pub type-declared : (ds : List Declaration) (t : TypeDeclaration) → Among t (type_declarations_of ds) → (i : ℕ)
    × (slice_get ds i ≡ Some (type t))
type-declared [] t h = elim h [ ]
type-declared (type x ∷ ds) t (inl e) = (0, ap (λ y. Some (type y)) e)
type-declared (type x ∷ ds) t (inr h) = let (i, at) = type-declared ds t h in (suc i, at)
type-declared (entity x ∷ ds) t h = let (i, at) = type-declared ds t h in (suc i, at)
type-declared (skipped p ∷ ds) t h = let (i, at) = type-declared ds t h in (suc i, at)

pub entity-declared : (ds : List Declaration) (e : Entity) → Among e (entities_of ds) → (i : ℕ)
    × (slice_get ds i ≡ Some (entity e))
entity-declared [] e h = elim h [ ]
entity-declared (entity x ∷ ds) e (inl k) = (0, ap (λ y. Some (entity y)) k)
entity-declared (entity x ∷ ds) e (inr h) = let (i, at) = entity-declared ds e h in (suc i, at)
entity-declared (type x ∷ ds) e h = let (i, at) = entity-declared ds e h in (suc i, at)
entity-declared (skipped p ∷ ds) e h = let (i, at) = entity-declared ds e h in (suc i, at)

-- the name at a number
pub name-here : (s : Schema) (i : ℕ) (d : Declaration) (n : Name) → IsAt s i d → declared_name d ≡ Some n
    → name_at s i ≡ n
name-here s i d n at called = ap name_in at ∙ ap or_empty called

-- With a table that is made along an order.
module _ (s : Schema) (r : IsResolved s) (g : Graph) (h : IsGraphOf s parts_in g) (order : List ℕ)
    (o : IsTopologicalOrder g order) (rows : Graph)
    (each : AreNumberRowsOf whole_types (all_data_types s) s.declarations rows) (declared : List Base)
    (made : AreMade s rows declared) where
  first-element : (i : ℕ) (k : DataType) (row : List ℕ) → AreAt (all_data_types s) row (k ∷ [])
      → HasElement s k (first_of row + 1)
  first-element i k [] found = absurd (cc)
  first-element i k (m ∷ row) found = element-at s m k (front-at (all_data_types s) m row k [] found)

  element-here : (i : ℕ) (t : TypeDeclaration) (k : DataType) → IsAt s i (type t) → t.underlying ≡ data_type k
      → HasElement s k (first_of (next rows i) + 1)
  element-here i t k at e =
      first-element i k (next rows i)
      (subst (λ u. AreAt (all_data_types s) (next rows i) (whole_underlying u)) e
      (row-at whole_types (all_data_types s) s.declarations rows i (type t) each at))

  pub step-to : (i j : ℕ) (n : Name) (t : TypeDeclaration) → IsAt s i (type t) → t.underlying ≡ data_type (named n)
      → HasNumber s n j → Step g i j
  step-to i j n t at e k =
      (h.edges i j).1 (type t, at, n, subst (λ u. Among n (parts_of u)) (sym e) (inl refl), k)

  -- what goes up from what declarations are made of holds of each
  pub rises : (Holds : ℕ → Type 0)
      → ((i : ℕ) (d : Declaration) → IsAt s i d → ((j : ℕ) → Step g i j → Holds j) → Holds i)
      → (i : ℕ) → i < length s.declarations → Holds i
  rises Holds up i lt =
      climb g Holds [] order (λ b none. absurd (cc)) o.order.follows
      (λ a m below. (let inside = o.order.within a m in let same = h.same in
      let at : slice_get s.declarations a ≡ Some (get_or s.declarations a (skipped nothing)) =
      slice_get-get_or s.declarations a (skipped nothing) (omega (arith, inside, same)) in
      up a (get_or s.declarations a (skipped nothing)) at below)) i
      (all-ordered s r g h order o i (let same = h.same in omega (arith, lt, same)))
    where
      nothing : Skipped
      nothing = constants []

  -- entries have the numbers that they tell
  named-numbered : (k : DataType)
      → ((n : Name) (j : ℕ) → k ≡ named n → HasNumber s n j → IsNumberedBase s (entry declared j))
      → IsNumberedBase s (named_in s declared k)
  named-numbered (named n) below = by (number_of s n) refl
    where
      by : (o : Option ℕ) → number_of s n ≡ o → IsNumberedBase s (entry_of declared o)
      by None e = tt
      by (Some j) e = below n j refl e
  named-numbered k below = tt

  own-number : (i : ℕ) (d : Declaration) (n : Name) → IsAt s i d → declared_name d ≡ Some n
      → HasNumber s (name_at s i) i
  own-number i d n at called =
      subst (λ m. HasNumber s m i) (sym (name-here s i d n at called)) (own-number-of s i d n r.once at called)

  behind-numbered : (i : ℕ) (t : TypeDeclaration) (u : Underlying) → IsAt s i (type t) → t.underlying ≡ u
      → ((j : ℕ) → Step g i j → IsNumberedBase s (entry declared j))
      → IsNumberedBase s (base_behind s (named_in s declared) (first_of (next rows i)) i u)
  behind-numbered i t (enumeration items) at e below = own-number i (type t) t.name at refl
  behind-numbered i t (select items) at e below = own-number i (type t) t.name at refl
  behind-numbered i t (data_type k) at e below =
      base-numbered s k (named_in s declared k) (first_of (next rows i) + 1)
      (named-numbered k (λ n j same l. below j (step-to i j n t at (e ∙ ap data_type same) l)))
      (element-here i t k at e)

  up-numbered : (i : ℕ) (d : Declaration) → IsAt s i d → ((j : ℕ) → Step g i j → IsNumberedBase s (entry declared j))
      → IsNumberedBase s (base_at s (named_in s declared) (first_of (next rows i)) i d)
  up-numbered i (type t) at below = behind-numbered i t t.underlying at refl below
  up-numbered i (entity e) at below = own-number i (entity e) e.name at refl
  up-numbered i (skipped p) at below = tt

  pub entry-numbered : (i : ℕ) → i < length s.declarations → IsNumberedBase s (entry declared i)
  entry-numbered i lt =
      rises (λ j. IsNumberedBase s (entry declared j))
      (λ j d at below. subst (IsNumberedBase s) (sym (made j d at)) (up-numbered j d at below)) i lt

  pub any-numbered : (k : DataType) → IsNumberedBase s (named_in s declared k)
  any-numbered k = named-numbered k (λ n j same l. entry-numbered j (number-within s n j l))

  -- what a defined type stands for
  module _ (d : Domain) (m : Measures d) where
    abbrev pub AreSame : ℕ → Type 0
    AreSame j = (n : Name) → HasNumber s n j → base_seen s (entry declared j) ≡ d.of_name n

    named-same : (k : DataType) → NamesKnownType s k → (n : Name) → k ≡ named n
        → ((j : ℕ) → HasNumber s n j → base_seen s (entry declared j) ≡ d.of_name n)
        → base_seen s (named_in s declared k) ≡ d.of_name n
    named-same k known n same below =
        let (j, l) = known-number s n (subst (NamesKnownType s) same known) in
        ap (λ (x : DataType). base_seen s (named_in s declared x)) same
        ∙ ap (λ (p : Option ℕ). base_seen s (entry_of declared p)) l ∙ below j l

    behind-same : (i : ℕ) (t : TypeDeclaration) (u : Underlying) → IsAt s i (type t) → t.underlying ≡ u
        → HasNumber s t.name i → ((j : ℕ) → Step g i j → AreSame j)
        → base_seen s (base_behind s (named_in s declared) (first_of (next rows i)) i u) ≡ base_of_underlying d t.name u
    behind-same i t (enumeration items) at e own below =
        ap conformance.enumeration (ap items_in at ∙ ap items_of e)
    behind-same i t (select items) at e own below = ap conformance.select (name-here s i (type t) t.name at refl)
    behind-same i t (data_type k) at e own below =
        let known = known-behind s r t.name k (t, stands-at s t.name i own ∙ at, e) in
        base-same s d m k (named_in s declared k) (first_of (next rows i) + 1) known (element-here i t k at e)
        (λ n same. named-same k known n same
        (λ j l. below j (step-to i j n t at (e ∙ ap data_type same) l) n l))

    up-same : IsDomain s d → (i : ℕ) (x : Declaration) → IsAt s i x → ((j : ℕ) → Step g i j → AreSame j) → (n : Name)
        → HasNumber s n i
        → base_seen s (base_at s (named_in s declared) (first_of (next rows i)) i x) ≡ d.of_name n
    up-same is i (type t) at below n k =
        let (x, there, called) = what-stands s n i k in
        let own = own-number-of s i (type t) t.name r.once at refl in
        behind-same i t t.underlying at refl own below
        ∙ sym (every-at (λ (y : TypeDeclaration). d.of_name y.name ≡ base_of_underlying d y.name y.underlying) t
        (types s) is.types (type-among s.declarations i t at))
        ∙ ap d.of_name (one-name s t.name n i own k)
    up-same is i (entity e) at below n k =
        let own = own-number-of s i (entity e) e.name r.once at refl in
        ap conformance.entity (name-here s i (entity e) e.name at refl)
        ∙ sym (every-at (λ (y : Entity). d.of_name y.name ≡ conformance.entity y.name) e (entities s) is.entities
        (entity-among s.declarations i e at))
        ∙ ap d.of_name (one-name s e.name n i own k)
    up-same is i (skipped p) at below n k =
        let (x, there, called) = what-stands s n i k in
        let same : x ≡ skipped p = some-is x (skipped p) (sym there ∙ at) in
        let none : declared_name (skipped p) ≡ Some n = sym (ap declared_name same) ∙ called in absurd (cc)
      where
        some-is : (x y : Declaration) → Some x ≡ Some y → x ≡ y
        some-is x y e = cc

    -- each name stands for its entry
    pub entry-same : IsDomain s d → (i : ℕ) → AreSame i
    entry-same is i n k =
        rises AreSame
        (λ j x at below l e. ap (base_seen s) (made j x at) ∙ up-same is j x at below l e) i (number-within s n i k) n k

    -- each data type asks what its entry says
    pub number-same : IsDomain s d → (i : ℕ) (k : DataType) → slice_get (all_data_types s) i ≡ Some k → NamesKnownType s k
        → base_seen s (base_of s declared (i + 1) k) ≡ base d k
    number-same is i k at known =
        base-same s d m k (named_in s declared k) (i + 1) known (element-at s i k at)
        (λ n same. named-same k known n same (λ j l. entry-same is j n l))

  pub number-numbered : (i : ℕ) (k : DataType) → slice_get (all_data_types s) i ≡ Some k
      → IsNumberedBase s (base_of s declared (i + 1) k)
  number-numbered i k at = base-numbered s k (named_in s declared k) (i + 1) (any-numbered k) (element-at s i k at)

  -- the functions that the table says
  abbrev pub name_base : Name → conformance.Base
  name_base n = base_seen s (entry_of declared (number_of s n))

  pub domain-types : (d : Domain) → Measures d → ((n : Name) → d.of_name n ≡ name_base n)
      → Every (λ (t : TypeDeclaration). d.of_name t.name ≡ base_of_underlying d t.name t.underlying) (types s)
  domain-types d m says =
      every-of (λ (t : TypeDeclaration). d.of_name t.name ≡ base_of_underlying d t.name t.underlying) (types s)
      (λ t among.
      (let (i, at) = type-declared s.declarations t among in
      let own = own-number-of s i (type t) t.name r.once at refl in
      says t.name ∙ ap (λ (p : Option ℕ). base_seen s (entry_of declared p)) own ∙ ap (base_seen s) (made i (type t) at)
      ∙ behind-same d m i t t.underlying at refl own
      (λ j step n l. ap (λ (p : Option ℕ). base_seen s (entry_of declared p)) (sym l) ∙ sym (says n))))

  pub domain-entities : (d : Domain) → ((n : Name) → d.of_name n ≡ name_base n)
      → Every (λ (e : Entity). d.of_name e.name ≡ conformance.entity e.name) (entities s)
  domain-entities d says =
      every-of (λ (e : Entity). d.of_name e.name ≡ conformance.entity e.name) (entities s)
      (λ e among.
      (let (i, at) = entity-declared s.declarations e among in
      let own = own-number-of s i (entity e) e.name r.once at refl in
      says e.name ∙ ap (λ (p : Option ℕ). base_seen s (entry_of declared p)) own
      ∙ ap (base_seen s) (made i (entity e) at)
      ∙ ap conformance.entity (name-here s i (entity e) e.name at refl)))
