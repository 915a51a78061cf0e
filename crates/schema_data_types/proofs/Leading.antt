-- What defined types lead to: through names alone, and through SELECTs.
use Rattle.std.specs.Prelude.{◌≡◌, Bool, true, false, List, [], ◌∷◌, ◌⊎◌, ◌↔◌, Some}
use Rattle.std.proofs.Common.{refl, inl, inr, ap, sym, subst, ◌∙◌}
use Rattle.graphs.specs.Graphs.{Chain, Leads}
use Rattle.express_syntax.specs.Schemas.{Schema, type, TypeDeclaration, Underlying, enumeration, select, data_type, DataType, integer, number, boolean, logical, real, string, binary, named, array, list, bag, set}
use Rattle.schema_semantics.specs.Names.{Name, IsOrLeads, StandsFor, IsEntity, Renames, HasItem, IsMadeOf}
use Rattle.schema_semantics.specs.Shapes.{Sort, Atom, value, instance, IsSort, IsEnumeration, IsSelect, IsOverSelect, IsOf}
use Rattle.schema_semantics.proofs.Lists.{leads-kept, leads-on}
use Rattle.schema_names.proofs.Edges.{first-name}
use Rattle.schema_data_types.specs.steps.Leaves.{IsLeaf, Gives}

module _ (s : Schema) where
  pub stands-one : (a : Name) (u v : Underlying) → StandsFor s a u → StandsFor s a v → u ≡ v
  stands-one a u v (t, at, e) (r, there, f) =
      let same : t ≡ r = is-one t r (sym at ∙ there) in
      sym e ∙ ap (λ (x : TypeDeclaration). x.underlying) same ∙ f
    where
      is-one : (t r : TypeDeclaration) → Some (type t) ≡ Some (type r) → t ≡ r
      is-one t r h = cc

  renames-one : (k l m : DataType) → Renames s k l → Renames s k m → l ≡ m
  renames-one (named a) l m h g = same l m (stands-one a (data_type l) (data_type m) h g)
    where
      same : (l m : DataType) → data_type l ≡ data_type m → l ≡ m
      same l m e = cc
  renames-one k l m h g = absurd h

  pub no-select : (a : Name) (l : DataType) → StandsFor s a (data_type l) → IsSelect s a → ⊥
  no-select a l h (items, g) = apart (stands-one a (data_type l) (select items) h g)
    where
      apart : data_type l ≡ select items → ⊥
      apart e = cc

  pub no-enumeration : (a : Name) (l : DataType) → StandsFor s a (data_type l) → IsEnumeration s a → ⊥
  no-enumeration a l h (items, g) = apart (stands-one a (data_type l) (enumeration items) h g)
    where
      apart : data_type l ≡ enumeration items → ⊥
      apart e = cc

  pub not-both : (a : Name) → IsEnumeration s a → IsSelect s a → ⊥
  not-both a (items, h) (more, g) = apart items more (stands-one a (enumeration items) (select more) h g)
    where
      apart : (items more : List Name) → enumeration items ≡ select more → ⊥
      apart items more e = cc

  over-back : (k m : DataType) → Renames s k m → IsOverSelect s m → IsOverSelect s k
  over-back k m h (n, inl e, sel) = (n, inr ([], subst (Renames s k) e h), sel)
  over-back k m h (n, inr (ms, c), sel) = (n, inr (m ∷ ms, (h, c)), sel)

  -- the next name is over the same SELECT
  over-next : (k m : DataType) → Renames s k m → IsOverSelect s k → IsOverSelect s m
  over-next k m h (n, inl e, sel) = absurd (no-select n m (subst (λ x. Renames s x m) e h) sel)
  over-next k m h (n, inr ([], step), sel) = (n, inl (renames-one k m (named n) h step), sel)
  over-next k m h (n, inr (l ∷ ms, (step, c)), sel) =
      (n, inr (ms, subst (λ x. Chain (Renames s) x ms (named n)) (renames-one k l m step h) c), sel)

  renames-on : (a : Name) (k : DataType) → Leads (Renames s) (named a) k → (l : DataType) × StandsFor s a (data_type l)
  renames-on a k ([], step) = (k, step)
  renames-on a k (m ∷ ms, (step, c)) = (m, step)

  -- what is over a SELECT has no sort of its own
  sort-not-over : (k : DataType) (x : Sort) → IsSort s k x → IsOverSelect s k → ⊥
  sort-not-over k x h (n, inl e, sel) = not-both n (subst (λ y. IsSort s y x) e h).0 sel
  sort-not-over (named a) x h (n, inr way, sel) =
      let (l, stands) = renames-on a (named n) way in no-enumeration a l stands h.0
  sort-not-over k x h (n, inr ([], step), sel) = absurd step
  sort-not-over k x h (n, inr (m ∷ ms, (step, c)), sel) = absurd step

  along-not-over : (k : DataType) (ms : List DataType) (l : DataType) (x : Sort) → Chain (Renames s) k ms l
      → IsSort s l x → IsOverSelect s k → ⊥
  along-not-over k [] l x c h over = sort-not-over l x h (over-next k l c over)
  along-not-over k (m ∷ ms) l x c h over = along-not-over m ms l x c.1 h (over-next k m c.0 over)

  pub named-not-over : (k l : DataType) (x : Sort) → IsOrLeads (Renames s) k l → IsSort s l x → IsOverSelect s k → ⊥
  named-not-over k l x (inl e) h over = sort-not-over l x h (subst (IsOverSelect s) e over)
  named-not-over k l x (inr (ms, c)) h over = along-not-over k ms l x c h over

  -- without a SELECT there are names alone
  item-over : (k l : DataType) → HasItem s k l → IsOverSelect s k
  item-over (named a) (named b) (items, stands, m) = (a, inl refl, (items, stands))
  item-over k l h = absurd h

  along-names : (k : DataType) (ms : List DataType) (l : DataType) → (IsOverSelect s k → ⊥) → Chain (IsMadeOf s) k ms l
      → Leads (Renames s) k l
  along-names k [] l free (inl step) = ([], step)
  along-names k [] l free (inr item) = absurd (free (item-over k l item))
  along-names k (m ∷ ms) l free (inl step, c) =
      let (ns, d) = along-names m ms l (λ over. free (over-back k m step over)) c in (m ∷ ns, (step, d))
  along-names k (m ∷ ms) l free (inr item, c) = absurd (free (item-over k m item))

  pub by-names : (k l : DataType) → (IsOverSelect s k → ⊥) → IsOrLeads (IsMadeOf s) k l → IsOrLeads (Renames s) k l
  by-names k l free (inl e) = inl e
  by-names k l free (inr (ms, c)) = inr (along-names k ms l free c)

  -- what is made of a SELECT is over one
  along-over : (k : DataType) (ms : List DataType) (n : Name) → Chain (IsMadeOf s) k ms (named n) → IsSelect s n
      → IsOverSelect s k
  along-over k [] n (inl step) sel = (n, inr ([], step), sel)
  along-over k [] n (inr item) sel = item-over k (named n) item
  along-over k (m ∷ ms) n (inl step, c) sel = over-back k m step (along-over m ms n c sel)
  along-over k (m ∷ ms) n (inr item, c) sel = item-over k m item

  pub made-over : (k : DataType) (n : Name) → IsOrLeads (IsMadeOf s) k (named n) → IsSelect s n → IsOverSelect s k
  made-over k n (inl e) sel = (n, inl e, sel)
  made-over k n (inr (ms, c)) sel = along-over k ms n c sel

  renames-made : (k l : DataType) → Renames s k l → IsMadeOf s k l
  renames-made k l h = inl h

  pub names-made : (k l : DataType) → IsOrLeads (Renames s) k l → IsOrLeads (IsMadeOf s) k l
  names-made k l (inl e) = inl e
  names-made k l (inr way) = inr (leads-kept (Renames s) (IsMadeOf s) renames-made k l way)

  -- the last step to a data type without a name
  last-leaf : (a : Name) (k : DataType) → IsLeaf k → IsMadeOf s (named a) k → StandsFor s a (data_type k)
  last-leaf a k leaf (inl step) = step
  last-leaf a (named n) leaf (inr item) = absurd leaf
  last-leaf a k leaf (inr item) = absurd item

  abbrev pub Way : Name → Name → Type 0
  Way a b = IsOrLeads (IsMadeOf s) (named a) (named b)

  way-on : (a b c : Name) → IsMadeOf s (named a) (named b) → Way b c → Way a c
  way-on a b c h (inl e) = inr ([], subst (IsMadeOf s (named a)) e h)
  way-on a b c h (inr (ms, d)) = inr (named b ∷ ms, (h, d))

  to-leaf : (a : Name) (ms : List DataType) (k : DataType) → IsLeaf k → Chain (IsMadeOf s) (named a) ms k → (b : Name)
      × Way a b × StandsFor s b (data_type k)
  to-leaf a [] k leaf c = (a, inl refl, last-leaf a k leaf c)
  to-leaf a (m ∷ ms) k leaf (step, c) =
      let (n, e) = first-name s m ms k c in
      let (b, way, stands) = to-leaf n ms k leaf (subst (λ x. Chain (IsMadeOf s) x ms k) e c) in
      (b, way-on a n b (subst (IsMadeOf s (named a)) e step) way, stands)

  abbrev pub HasSort : Name → Sort → Type 0
  HasSort b x = IsSort s (named b) x ⊎ ((k : DataType) × StandsFor s b (data_type k) × IsLeaf k × IsSort s k x)

  not-named : (a : Name) (k : DataType) → IsLeaf k → named a ≡ k → ⊥
  not-named a k leaf e = subst IsLeaf (sym e) leaf

  leaf-sort : (a : Name) (k : DataType) (x : Sort) → IsLeaf k → IsOrLeads (IsMadeOf s) (named a) k → IsSort s k x
      → (b : Name) × Way a b × HasSort b x
  leaf-sort a k x leaf (inl e) h = absurd (not-named a k leaf e)
  leaf-sort a k x leaf (inr (ms, c)) h =
      let (b, way, stands) = to-leaf a ms k leaf c in (b, way, inr (k, stands, leaf, h))

  pub to-sort : (a : Name) (l : DataType) (x : Sort) → IsOrLeads (IsMadeOf s) (named a) l → IsSort s l x → (b : Name)
      × Way a b × HasSort b x
  to-sort a (named b) x way h = (b, way, inl h)
  to-sort a integer x way h = leaf-sort a integer x tt way h
  to-sort a number x way h = leaf-sort a number x tt way h
  to-sort a boolean x way h = leaf-sort a boolean x tt way h
  to-sort a logical x way h = leaf-sort a logical x tt way h
  to-sort a (real w) x way h = leaf-sort a (real w) x tt way h
  to-sort a (string w) x way h = leaf-sort a (string w) x tt way h
  to-sort a (binary w) x way h = leaf-sort a (binary w) x tt way h
  to-sort a (array b o u k) x way h = leaf-sort a (array b o u k) x tt way h
  to-sort a (list b u k) x way h = leaf-sort a (list b u k) x tt way h
  to-sort a (bag b k) x way h = leaf-sort a (bag b k) x tt way h
  to-sort a (set b k) x way h = leaf-sort a (set b k) x tt way h

  on-leaf : (a b : Name) (k : DataType) → Way a b → StandsFor s b (data_type k) → IsOrLeads (IsMadeOf s) (named a) k
  on-leaf a b k (inl e) h = inr ([], inl (subst (λ x. Renames s x k) (sym e) h))
  on-leaf a b k (inr way) h = inr (leads-on (IsMadeOf s) (named a) (named b) k way (inl h))

  pub from-sort : (a b : Name) (x : Sort) → Way a b → HasSort b x → (l : DataType)
      × IsOrLeads (IsMadeOf s) (named a) l × IsSort s l x
  from-sort a b x way (inl h) = (named b, way, h)
  from-sort a b x way (inr (k, stands, leaf, h)) = (k, on-leaf a b k way stands, h)

  -- whether a name is over a SELECT, decided
  abbrev pub Tells : Name → Bool → Type 0
  Tells a w = (w ≡ true) ↔ IsOverSelect s (named a)

  -- what the values of a name may be is what one that it leads to gives
  pub of-forth : (a : Name) (w : Bool) → Tells a w → (x : Atom) → IsOf s (named a) x → (b : Name) × Way a b
      × Gives s b w x
  of-forth a true told (value t false) (l, way, h) = absurd (named-not-over (named a) l t way h (told.0 refl))
  of-forth a false told (value t false) (l, way, h) =
      let (b, on, sort) = to-sort a l t (names-made (named a) l way) h in (b, on, (refl, sort))
  of-forth a true told (value t true) (over, (l, way, h)) =
      let (b, on, sort) = to-sort a l t way h in (b, on, (refl, sort))
  of-forth a false told (value t true) (over, (l, way, h)) =
      let q : false ≡ true = told.1 over in absurd (cc)
  of-forth a w told (instance n) (way, ent) = (n, way, (refl, ent))

  pub of-back : (a : Name) (w : Bool) → Tells a w → (x : Atom) (b : Name) → Way a b → Gives s b w x
      → IsOf s (named a) x
  of-back a w told (value t true) b way (e, sort) = (told.0 (sym e), from-sort a b t way sort)
  of-back a w told (value t false) b way (e, sort) =
      let (l, on, h) = from-sort a b t way sort in (l, by-names (named a) l not-over on, h)
    where
      not-over : IsOverSelect s (named a) → ⊥
      not-over over = let q : false ≡ true = e ∙ told.1 over in absurd (cc)
  of-back a w told (instance n) b way (e, ent) =
      (subst (λ m. IsOrLeads (IsMadeOf s) (named a) (named m)) (sym e) way, subst (IsEntity s) (sym e) ent)
