-- Defined types that are followed to what they are defined by.
use Rattle.std.specs.Prelude.{◌≡◌, ℕ, ◌+◌, ◌<◌, ◌≤◌, true, List, [], ◌∷◌, Option, None, Some, length, slice_get, eqb, ◌⊎◌, ◌↔◌}
use Rattle.std.specs.List.{IsDistinct}
use Rattle.std.proofs.Common.{refl, inl, inr, ap, sym, subst, ◌∙◌, arith}
use Rattle.std.proofs.lemmas.Map.Steps.{length-le_from_distinct_below}
use Rattle.graphs.specs.Graphs.{has, Chain, Leads}
use Rattle.graphs.proofs.Searching.{nothing}
use Rattle.graphs.proofs.Ordering.{once-before, is-false}
use Rattle.express_syntax.specs.Schemas.{Schema, Declaration, type, entity, skipped, TypeDeclaration, Underlying, enumeration, select, data_type, DataType, named}
use Rattle.schema_semantics.specs.Names.{Name, IsOrLeads, IsTypeAt, Renames, IsMadeOf}
use Rattle.schema_semantics.specs.Faults.{IsResolved}
use Rattle.schema_semantics.proofs.Lists.{leads-kept, leads-on}
use Rattle.schema_names.specs.Numbers.{number_of, HasNumber}
use Rattle.schema_names.proofs.Numbers.{stands-at, what-stands, each-number, one-name}
use Rattle.schema_names.proofs.Edges.{number-within}
use Rattle.schema_attribute_sources.specs.steps.Defined.{name_of, name_behind, renamed_in, renamed_of, number_for, renamed_at}
use Rattle.schema_attribute_sources.proofs.Members.{has-split, one-number}

pub named-is : (m n : Name) → named m ≡ named n → m ≡ n
named-is m n e = cc

type-is : (t u : TypeDeclaration) → Some (type t) ≡ Some (type u) → t ≡ u
type-is t u e = cc

kind-is : (k l : DataType) → data_type k ≡ data_type l → k ≡ l
kind-is k l e = cc

module _ (s : Schema) where
  -- what stands behind the `=` of a type is one
  pub behind : (m : Name) (i : ℕ) → HasNumber s m i → (k : DataType) → Renames s (named m) k
      → renamed_of (slice_get s.declarations i) ≡ name_of k
  behind m i h k (t, at, is) =
      ap renamed_of (sym (stands-at s m i h) ∙ at) ∙ ap name_behind is

  -- the name that is followed
  pub name-followed : (m : Name) (i j : ℕ) → HasNumber s m i → renamed_at s i ≡ Some j
      → (n : Name) × HasNumber s n j × Renames s (named m) (named n)
  name-followed m i j h e =
      let (d, at, called) = what-stands s m i h in
      by d at (ap (λ o. number_for s (renamed_of o)) (sym at) ∙ e)
    where
      of-type : (t : TypeDeclaration) → IsTypeAt s m t → (u : Underlying) → t.underlying ≡ u
          → number_for s (name_behind u) ≡ Some j → (n : Name) × HasNumber s n j × Renames s (named m) (named n)
      of-type t there (enumeration items) is e = absurd (cc)
      of-type t there (select items) is e = absurd (cc)
      of-type t there (data_type (named n)) is e = (n, e, (t, there, is))
      of-type t there (data_type k) is e = absurd (cc)

      by : (d : Declaration) → slice_get s.declarations i ≡ Some d → number_for s (renamed_in d) ≡ Some j
          → (n : Name) × HasNumber s n j × Renames s (named m) (named n)
      by (type t) at e = of-type t (stands-at s m i h ∙ at) t.underlying refl e
      by (entity x) at e = absurd (cc)
      by (skipped p) at e = absurd (cc)

  -- a name that leads on or has a number has the number that is followed
  pub followed : (m : Name) (i : ℕ) → HasNumber s m i → (x : Name) (l : ℕ) → Renames s (named m) (named x)
      → HasNumber s x l → renamed_at s i ≡ Some l
  followed m i h x l step k = ap (number_for s) (behind m i h (named x) step) ∙ k

  -- what leads to a name has a name and a number
  pub leads-name : (k : DataType) (ms : List DataType) (n : Name) → Chain (Renames s) k ms (named n)
      → (x : Name) × (l : ℕ) × (k ≡ named x) × HasNumber s x l
  leads-name (named x) [] n (t, at, is) =
      let (l, k) = each-number 0 s.declarations x (type t) at in (x, l, refl, k)
  leads-name (named x) (m ∷ ms) n ((t, at, is), c) =
      let (l, k) = each-number 0 s.declarations x (type t) at in (x, l, refl, k)
  leads-name k [] n c = absurd c
  leads-name k (m ∷ ms) n c = absurd c.0

  -- the first step of m is the one that is followed, and the rest leads on from there
  goes-on : (m n : Name) (i j : ℕ) → HasNumber s m i → HasNumber s n j → (ms : List DataType)
      → Chain (Renames s) (named m) ms (named n)
      → (x : Name) × (l : ℕ) × HasNumber s x l × (renamed_at s i ≡ Some l)
      × IsOrLeads (Renames s) (named x) (named n)
  goes-on m n i j h k [] c = (n, j, k, followed m i h n j c k, inl refl)
  goes-on m n i j h k (y ∷ ms) (step, c) =
      let (x, l, is, there) = leads-name y ms n c in (
        x,
        l,
        there,
        followed m i h x l (subst (Renames s (named m)) is step) there,
        inr (ms, subst (λ z. Chain (Renames s) z ms (named n)) is c),
      )

  -- where the walk is, after so many steps
  pub record Walks (m n : Name) (at steps : ℕ) : Type 0 where
    pub name : Name
    pub number : HasNumber s name at
    pub same : IsOrLeads (Renames s) (named m) (named n) ↔ IsOrLeads (Renames s) (named name) (named n)
    pub seen : List ℕ
    pub once : IsDistinct eqb seen
    pub many : length seen ≡ steps
    pub leads : (q : ℕ) → has seen q ≡ true
        → (x : Name) × HasNumber s x q × Leads (Renames s) (named x) (named name)

  pub walks-first : (m n : Name) (i : ℕ) → HasNumber s m i → Walks m n i 0
  walks-first m n i h = record {
    name = m;
    number = h;
    same = ((λ l. l), (λ l. l));
    seen = [];
    once = nothing;
    many = refl;
    leads = λ q k. absurd (cc);
  }

  module _ (r : IsResolved s) where
    -- no step leads back
    not-seen : (m n : Name) (at steps : ℕ) (w : Walks m n at steps) → has w.seen at ≡ true → ⊥
    not-seen m n at steps w k =
        let (x, h, l) = w.leads at k in
        let is : x ≡ w.name = one-name s x w.name at h w.number in
        r.no_type_cycle w.name
        (leads-kept (Renames s) (IsMadeOf s) (λ a b step. inl step) (named w.name) (named w.name)
        (subst (λ y. Leads (Renames s) (named y) (named w.name)) is l))

    fresh : (m n : Name) (at steps : ℕ) (w : Walks m n at steps) → IsDistinct eqb (at ∷ w.seen)
    fresh m n at steps w =
        once-before w.seen at w.once (is-false (has w.seen at) (not-seen m n at steps w))

    pub walks-on : (m n : Name) (at steps next other : ℕ) → HasNumber s n other → Walks m n at steps
        → (at ≡ other → ⊥) → renamed_at s at ≡ Some next → Walks m n next (steps + 1)
    walks-on m n at steps next other k w differs e =
        let (x, there, step) = name-followed w.name at next w.number e in
        record {
          name = x;
          number = there;
          same = (
            (λ l. onward x there (w.same.0 l)),
            (λ l. w.same.1 (inr (back x step l))),
          );
          seen = at ∷ w.seen;
          once = fresh m n at steps w;
          many = let before = w.many in omega (arith, before);
          leads = λ q h. reach x step q (has-split at q w.seen h);
        }
      where
        onward : (x : Name) → HasNumber s x next → IsOrLeads (Renames s) (named w.name) (named n)
            → IsOrLeads (Renames s) (named x) (named n)
        onward x there (inl is) =
            absurd (differs (one-number (number_of s) w.name n at other w.number k (named-is w.name n is)))
        onward x there (inr (ms, c)) =
            let (y, l, h, f, rest) = goes-on w.name n at other w.number k ms c in
            let same : l ≡ next = one-next l (sym f ∙ e) in
            let is : y ≡ x = one-name s y x next (subst (HasNumber s y) same h) there in
            subst (λ z. IsOrLeads (Renames s) (named z) (named n)) is rest
          where
            one-next : (l : ℕ) → Some l ≡ Some next → l ≡ next
            one-next l e = cc

        back : (x : Name) → Renames s (named w.name) (named x) → IsOrLeads (Renames s) (named x) (named n)
            → Leads (Renames s) (named w.name) (named n)
        back x step (inl is) = ([], subst (Renames s (named w.name)) is step)
        back x step (inr (ms, c)) = (named x ∷ ms, (step, c))

        reach : (x : Name) → Renames s (named w.name) (named x) → (q : ℕ) → (q ≡ at) ⊎ (has w.seen q ≡ true)
            → (y : Name) × HasNumber s y q × Leads (Renames s) (named y) (named x)
        reach x step q (inl is) = (w.name, subst (HasNumber s w.name) (sym is) w.number, ([], step))
        reach x step q (inr h) =
            let (y, l, c) = w.leads q h in (y, l, leads-on (Renames s) (named y) (named w.name) (named x) c step)

    pub walks-here : (m n : Name) (at steps other : ℕ) → HasNumber s n other → Walks m n at steps → at ≡ other
        → IsOrLeads (Renames s) (named m) (named n)
    walks-here m n at steps other k w is =
        w.same.1 (inl (ap named (one-name s w.name n other (subst (HasNumber s w.name) is w.number) k)))

    pub walks-no-further : (m n : Name) (at steps other : ℕ) → HasNumber s n other → Walks m n at steps
        → (at ≡ other → ⊥) → renamed_at s at ≡ None → IsOrLeads (Renames s) (named m) (named n) → ⊥
    walks-no-further m n at steps other k w differs none l = by (w.same.0 l)
      where
        by : IsOrLeads (Renames s) (named w.name) (named n) → ⊥
        by (inl is) = differs (one-number (number_of s) w.name n at other w.number k (named-is w.name n is))
        by (inr (ms, c)) =
            let (y, i, h, f, rest) = goes-on w.name n at other w.number k ms c in lacks i (sym none ∙ f)
          where
            lacks : (i : ℕ) → None ≡ Some i → ⊥
            lacks i e = cc

    -- there are not so many types
    pub walks-few : (m n : Name) (at steps : ℕ) → Walks m n at steps → steps < length s.declarations
    walks-few m n at steps w =
        let few : length (at ∷ w.seen) ≤ length s.declarations =
        length-le_from_distinct_below (at ∷ w.seen) (length s.declarations) (fresh m n at steps w)
        (λ q h. below q (has-split at q w.seen h)) in
        let many = w.many in
        omega (arith, few, many)
      where
        below : (q : ℕ) → (q ≡ at) ⊎ (has w.seen q ≡ true) → q < length s.declarations
        below q (inl is) =
            number-within s w.name q (subst (HasNumber s w.name) (sym is) w.number)
        below q (inr h) = let (x, k, c) = w.leads q h in number-within s x q k

-- what is followed is declared
pub renamed-within : (s : Schema) (i j : ℕ) → renamed_at s i ≡ Some j → j < length s.declarations
renamed-within s i j e = by (renamed_of (slice_get s.declarations i)) e
  where
    by : (o : Option Name) → number_for s o ≡ Some j → j < length s.declarations
    by None e = absurd (cc)
    by (Some n) e = number-within s n j e
