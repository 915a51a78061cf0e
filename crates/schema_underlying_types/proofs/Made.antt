-- Along an order of what defined types are made of, each declaration gets its entry.
use Rattle.std.specs.Prelude.{◌≡◌, ℕ, ◌+◌, ◌<◌, Bool, true, false, List, [], ◌∷◌, Option, None, Some, map, filter_map, length, take, slice_get, get_or, set as list_set}
use Rattle.std.specs.List.{cons_option}
use Rattle.std.proofs.Common.{refl, inl, inr, ap, sym, subst, ◌∙◌, arith}
use Rattle.graphs.specs.Graphs.{Graph, has, next, Step, IsCyclic, LeadsToCycle, Leads}
use Rattle.graphs.specs.Orders.{Follows, Solves, IsTopologicalOrder}
use Rattle.graphs.proofs.Gathered.{solves-next, set-here, set-elsewhere}
use Rattle.express_syntax.specs.Schemas.{Schema, Declaration, type, entity, skipped, Underlying, enumeration, select, data_type, DataType, integer, number, boolean, logical, real, string, binary, named, array, list, bag, set}
use Rattle.schema_semantics.specs.Names.{Name, IsMadeOf}
use Rattle.schema_semantics.specs.Faults.{IsResolved}
use Rattle.schema_semantics.proofs.Lists.{last-step}
use Rattle.schema_names.specs.Numbers.{number_of, IsAt}
use Rattle.schema_names.specs.Edges.{IsGraphOf, parts_in, parts_of}
use Rattle.schema_names.proofs.Numbers.{one-name}
use Rattle.schema_names.proofs.Edges.{made-of-forth, within}
use Rattle.schema_underlying_types.specs.declared.base.Base.{Base}
use Rattle.schema_underlying_types.specs.declared.base.Base.TheVariants.{Integer}
use Rattle.schema_underlying_types.specs.BaseEntries.{entry, entry_of, named_in, base_behind, base_at, first_of, AreMade}

abbrev pub first_base : List Base → Base
first_base [] = Integer
first_base (b ∷ bs) = b

abbrev pub base_where : Schema → (DataType → Base) → ℕ → ℕ → Option Declaration → Base
base_where s stands first i None = Integer
base_where s stands first i (Some d) = base_at s stands first i d

-- what a declaration stands for, with the entries of what it is made of
abbrev pub made_of : Schema → Graph → ℕ → List Base → Base
made_of s rows i bs = base_where s (λ k. first_base bs) (first_of (next rows i)) i (slice_get s.declarations i)

-- In a resolved schema no defined type is made of itself.
module _ (s : Schema) (r : IsResolved s) (g : Graph) (h : IsGraphOf s parts_in g) where
  no-cycle : (i : ℕ) → IsCyclic g i → ⊥
  no-cycle i c =
      let (m, step) = last-step (Step g) i i c in
      let (d, at, n, among, k) = (h.edges m i).0 step in
      let (x, l, b) = made-of-forth s g h n i i k c in
      r.no_type_cycle n (subst (λ (y : Name). Leads (IsMadeOf s) (named n) (named y)) (one-name s x n i l k) b)

  no-lead : (i : ℕ) → LeadsToCycle g i → ⊥
  no-lead i (inl c) = no-cycle i c
  no-lead i (inr (j, reached, c)) = no-cycle j c

  pub all-ordered : (order : List ℕ) → IsTopologicalOrder g order → (i : ℕ) → i < length g → has order i ≡ true
  all-ordered order o i lt = by (has order i) refl
    where
      by : (b : Bool) → has order i ≡ b → b ≡ true
      by true e = refl
      by false e = absurd (no-lead i (o.rest i lt e))

module _ (s : Schema) (g : Graph) (h : IsGraphOf s parts_in g) (declared : List Base) where
  front-entry : (o : Option ℕ) → entry_of declared o ≡ first_base (map (entry declared) (cons_option o []))
  front-entry None = refl
  front-entry (Some j) = refl

  -- a data type asks of the table what it asks of the entries that are led to
  same-behind : (k : DataType) (first i : ℕ) (js : List ℕ) → js ≡ filter_map (number_of s) (parts_of (data_type k))
      → base_behind s (named_in s declared) first i (data_type k)
      ≡ base_behind s (λ k. first_base (map (entry declared) js)) first i (data_type k)
  same-behind (named n) first i js e =
      front-entry (number_of s n) ∙ ap (λ (xs : List ℕ). first_base (map (entry declared) xs)) (sym e)
  same-behind integer first i js e = refl
  same-behind number first i js e = refl
  same-behind boolean first i js e = refl
  same-behind logical first i js e = refl
  same-behind (real w) first i js e = refl
  same-behind (string w) first i js e = refl
  same-behind (binary w) first i js e = refl
  same-behind (array b o u k) first i js e = refl
  same-behind (list b u k) first i js e = refl
  same-behind (bag b k) first i js e = refl
  same-behind (set b k) first i js e = refl

  same-underlying : (u : Underlying) (first i : ℕ) (js : List ℕ) → js ≡ filter_map (number_of s) (parts_of u)
      → base_behind s (named_in s declared) first i u
      ≡ base_behind s (λ k. first_base (map (entry declared) js)) first i u
  same-underlying (enumeration items) first i js e = refl
  same-underlying (select items) first i js e = refl
  same-underlying (data_type k) first i js e = same-behind k first i js e

  same-declared : (d : Declaration) (first i : ℕ) (js : List ℕ) → js ≡ filter_map (number_of s) (parts_in d)
      → base_at s (named_in s declared) first i d ≡ base_at s (λ k. first_base (map (entry declared) js)) first i d
  same-declared (type t) first i js e = same-underlying t.underlying first i js e
  same-declared (entity x) first i js e = refl
  same-declared (skipped p) first i js e = refl

  pub made-is : (rows : Graph) (i : ℕ) (d : Declaration) → IsAt s i d
      → base_at s (named_in s declared) (first_of (next rows i)) i d
      ≡ made_of s rows i (map (entry declared) (next g i))
  made-is rows i d at =
      same-declared d (first_of (next rows i)) i (next g i) (h.rows i d at)
      ∙ ap (base_where s (λ k. first_base (map (entry declared) (next g i))) (first_of (next rows i)) i) (sym at)

module _ (s : Schema) (g : Graph) (h : IsGraphOf s parts_in g) (rows : Graph) where
  pub entry-next : (order : List ℕ) (declared : List Base) (i x : ℕ) (d : Declaration) (row : List ℕ) (b : Base)
      → Follows g [] order → i < length order → x ≡ get_or order i 0 → x < length declared → IsAt s x d
      → row ≡ next rows x → b ≡ base_at s (named_in s declared) (first_of row) x d
      → Solves g (take i order) (made_of s rows) (entry declared)
      → Solves g (take (i + 1) order) (made_of s rows) (entry (list_set declared x b))
  entry-next order declared i x d row b f lt at within there edge is done =
      solves-next g (made_of s rows) (entry declared) (entry (list_set declared x b)) order i x f lt at done
      (set-here declared x b Integer within ∙ is
      ∙ ap (λ (y : List ℕ). base_at s (named_in s declared) (first_of y) x d) edge
      ∙ made-is s g h declared rows x d there)
      (λ j ne. set-elsewhere declared x b j Integer ne)

  pub all-made : IsResolved s → (order : List ℕ) (declared : List Base) (i : ℕ) → IsTopologicalOrder g order
      → take i order ≡ order → Solves g (take i order) (made_of s rows) (entry declared) → AreMade s rows declared
  all-made r order declared i o whole done j d at =
      let lt = within s.declarations j d at in
      let same = h.same in
      done j (ap (λ (xs : List ℕ). has xs j) whole ∙ all-ordered s r g h order o j (omega (arith, lt, same)))
      ∙ sym (made-is s g h declared rows j d at)
