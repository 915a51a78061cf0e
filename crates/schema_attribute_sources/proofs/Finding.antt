-- Each list of types has an answer: where its attribute of a name is found, and the one that `\entity.attribute` means.
use Rattle.std.specs.Prelude.{◌≡◌, ℕ, Bool, true, false, List, Option, None, Some, slice_get}
use Rattle.std.specs.List.{find, list_all, list_any, position_from}
use Rattle.std.proofs.Common.{refl, subst}
use Rattle.graphs.specs.Graphs.{Graph, has, next}
use Rattle.express_syntax.specs.Schemas.{Schema}
use Rattle.schema_semantics.specs.Names.{Name, Declares}
use Rattle.schema_semantics.specs.Faults.{IsResolved}
use Rattle.schema_names.specs.Numbers.{HasNumber}
use Rattle.schema_explicit_attributes.specs.declared.own_attributes.Meant.TheVariants.{All}
use Rattle.schema_explicit_attributes.specs.steps.Owned.{declares_at}
use Rattle.schema_explicit_attributes.specs.Supertypes.{AreAbove}
use Rattle.schema_explicit_attributes.specs.Places.{all_places, HavePlaces}
use Rattle.schema_explicit_attributes.specs.SupertypeLines.{HaveLines}
use Rattle.schema_underlying_types.specs.BaseViews.{name_at}
use Rattle.schema_constraints.specs.steps.Ordered.{is_place}
use Rattle.schema_constraints.specs.declared.inverses.InverseAttribute.{InverseAttribute as InverseRow}
use Rattle.conformance.specs.Attributes.{Source, explicit, derived, inverse, unclear, IsDeclaring, IsUnderived, IsSource, IsNamed, IsInGroup}
use Rattle.schema_attribute_sources.specs.SourceViews.{types_seen, AreTypes, inverses_seen}
use Rattle.schema_attribute_sources.specs.steps.Declaring.{declares_beside, AreDeclaring}
use Rattle.schema_attribute_sources.specs.declared.declaring_entity.Declarer.{Declarer}
use Rattle.schema_attribute_sources.specs.declared.declaring_entity.Declarer.TheVariants.{Nobody, One, Several}
use Rattle.schema_attribute_sources.specs.steps.Deriving.{first_giving, derives}
use Rattle.schema_attribute_sources.specs.steps.Lowest.{leads, lowest_from, is_below}
use Rattle.schema_attribute_sources.specs.StoredAttributes.{is_inverse, IsOwnPlace, IsStored, AreInverses}
use Rattle.schema_attribute_sources.specs.steps.Grouping.{IsInherited, IsMember, first_named}
use Rattle.schema_attribute_sources.proofs.FirstNamed.{first-is, first-none}
use Rattle.schema_attribute_sources.proofs.Naming.{nobody-declares, several-declare, one-declares, number-at, declares-alone, named-none, named-one, named-two}
use Rattle.schema_attribute_sources.proofs.Giving.{derives-first}
use Rattle.schema_attribute_sources.proofs.Deciding.{is-derived, lowest-is, none-is-lowest, lowest-number, gives-some, is-underived}
use Rattle.schema_attribute_sources.proofs.Keeping.{own-place, inverse-found, inverse-there, is-stored, not-stored}
use Rattle.schema_attribute_sources.proofs.Membership.{inherits-none, inherits-one, inherits-elsewhere, not-here, own-member, not-own, inherited-member, is-declaring, in-group, not-in-group}

-- how many declare it
declarer : (s : Schema) (a : Name) (xs : List ℕ) → (d : Declarer) × AreDeclaring (declares_at s All a) xs d
declarer s a xs = by (find (declares_at s All a) xs) refl
  where
    beside : (p : ℕ) → find (declares_at s All a) xs ≡ Some p → (b : Bool) → list_any (declares_beside s a p) xs ≡ b
        → (d : Declarer) × AreDeclaring (declares_at s All a) xs d
    beside p first true e = (Several, several-declare s a xs p first e)
    beside p first false e = (One p, one-declares s a xs p first e)

    by : (o : Option ℕ) → find (declares_at s All a) xs ≡ o
        → (d : Declarer) × AreDeclaring (declares_at s All a) xs d
    by None e = (Nobody, nobody-declares s a xs e)
    by (Some p) e = beside p e (list_any (declares_beside s a p) xs) refl

module _ (s : Schema) (r : IsResolved s) (lines : Graph) (h : HaveLines s lines) (above : Graph)
    (up : AreAbove s above) (rows : Graph) (places : HavePlaces s rows) (inverses : List InverseRow)
    (inverted : AreInverses s inverses) (types : List ℕ) (known : AreTypes s types) (a : Name) where
  -- the source of an attribute that the entity p declares
  module _ (p : ℕ) (k : HasNumber s (name_at s p) p)
      (d : IsDeclaring s (types_seen s types) a (name_at s p)) where
    abbrev Found : Type 0
    Found = (x : Source) × IsSource s (inverses_seen s inverses) (types_seen s types) (name_at s p) a x

    kept-by : IsUnderived s (types_seen s types) (name_at s p) a → IsStored s (name_at s p) a → (o : Option ℕ)
        → IsOwnPlace s (name_at s p, a) o → Found
    kept-by free stored (Some q) own = (explicit (name_at s p, a), (refl, own.0, free))
    kept-by free stored None not = by (position_from (is_inverse p a) 0 inverses) refl
      where
        by : (o : Option ℕ) → position_from (is_inverse p a) 0 inverses ≡ o → Found
        by (Some n) e =
            let (y, at, first) = inverse-found s (name_at s p) a p k refl inverses inverted n e in
            (inverse y, (first, not, free))
        by None e =
            absurd (not-stored s (name_at s p) a stored not
            (λ i. inverse-there s (name_at s p) a p k refl inverses inverted i e))

    stored-at : IsUnderived s (types_seen s types) (name_at s p) a → Found
    stored-at free =
        kept-by free (is-stored s (name_at s p) a d.1 (free (name_at s p) d.0))
        (find (λ (q : ℕ). is_place (name_at s p, a) (slice_get (all_places s) q)) (next rows p))
        (own-place s r rows places (name_at s p) a p (d.1.0, d.1.1) k
        (find (λ (q : ℕ). is_place (name_at s p, a) (slice_get (all_places s) q)) (next rows p)) refl)

    derived-at : (e : ℕ) → lowest_from (derives s lines a p) (leads above) None types ≡ Some e → Found
    derived-at e found = by (list_all (is_below (derives s lines a p) (leads above) e) types) refl
      where
        first : list_all (is_below (derives s lines a p) (leads above) e) types ≡ true → (o : Option ℕ)
            → first_giving s lines a p e ≡ o → Found
        first all (Some n) f = (
          derived (name_at s e, n),
          (
            lowest-is s r lines h above up a p (name_at s p) k types known e found all,
            (derives-first s r lines h a p (name_at s p) k e (name_at s e)
                (lowest-number s r lines h above up a p (name_at s p) k types known e found) n f).0,
          ),
        )
        first all None f = absurd (gives-some s r lines h above up a p (name_at s p) k types known e found f)

        by : (b : Bool) → list_all (is_below (derives s lines a p) (leads above) e) types ≡ b → Found
        by true all = first all (first_giving s lines a p e) refl
        by false not = (
          unclear,
          (
            is-derived s r lines h above up a p (name_at s p) k types known e found,
            none-is-lowest s r lines h above up a p (name_at s p) k types known e found not,
          ),
        )

    source-at : Found
    source-at = by (lowest_from (derives s lines a p) (leads above) None types) refl
      where
        by : (o : Option ℕ) → lowest_from (derives s lines a p) (leads above) None types ≡ o → Found
        by (Some e) found = derived-at e found
        by None none = stored-at (is-underived s r lines h above up a p (name_at s p) k types known none)

  pub some-named : (o : Option Source) × IsNamed s (inverses_seen s inverses) (types_seen s types) a o
  some-named = let (d, are) = declarer s a types in by d are
    where
      by : (d : Declarer) → AreDeclaring (declares_at s All a) types d
          → (o : Option Source) × IsNamed s (inverses_seen s inverses) (types_seen s types) a o
      by Nobody none = (None, named-none s a types known (inverses_seen s inverses) none)
      by Several two = (Some unclear, named-two s a types known (inverses_seen s inverses) two)
      by (One p) one =
          let (x, is) = source-at p (number-at s a types known p one.0)
          (declares-alone s a types known (inverses_seen s inverses) p one).0 in
          (Some x, named-one s a types known (inverses_seen s inverses) p one x is)

  module _ (e : Name) where
    inherited : (i : ℕ) → HasNumber s e i → (Declares s e a → ⊥) → (o : Option ℕ) × IsInherited s types e a o
    inherited i k free = let (d, are) = declarer s a (next above i) in by d are
      where
        here : (p : ℕ) → AreDeclaring (declares_at s All a) (next above i) (One p) → (b : Bool) → has types p ≡ b
            → (o : Option ℕ) × IsInherited s types e a o
        here p one true m = (Some p, inherits-one s above up a e i k free types p one m)
        here p one false not = (None, inherits-elsewhere s above up a e i k free types p one known not)

        by : (d : Declarer) → AreDeclaring (declares_at s All a) (next above i) d
            → (o : Option ℕ) × IsInherited s types e a o
        by Nobody none = (None, inherits-none s above up a e i k free types Nobody none (λ p q. absurd (cc)))
        by Several two = (None, inherits-none s above up a e i k free types Several two (λ p q. absurd (cc)))
        by (One p) one = here p one (has types p) refl

    member : (o : Option ℕ) × IsMember s types e a o
    member = by (first_named s e types) refl
      where
        own : (i : ℕ) → HasNumber s e i → has types i ≡ true → (b : Bool) → declares_at s All a i ≡ b
            → (o : Option ℕ) × IsMember s types e a o
        own i k m true t = (Some i, own-member s types known a e i k m t)
        own i k m false f =
            let free = not-own s types known a e i k f in
            let (o, is) = inherited i k free in
            (o, inherited-member s types known a e i k m free o is)

        by : (o : Option ℕ) → first_named s e types ≡ o → (o : Option ℕ) × IsMember s types e a o
        by None none = (None, not-here s types known a e (first-none s e types none))
        by (Some i) some =
            let (m, is) = first-is s e types i some in
            own i (subst (λ n. HasNumber s n i) is (number-at s a types known i m)) m (declares_at s All a i) refl

    pub some-in-group : (x : Source) × IsInGroup s (inverses_seen s inverses) (types_seen s types) e a x
    some-in-group = let (o, is) = member in by o is
      where
        by : (o : Option ℕ) → IsMember s types e a o
            → (x : Source) × IsInGroup s (inverses_seen s inverses) (types_seen s types) e a x
        by None none = (unclear, not-in-group s (inverses_seen s inverses) (types_seen s types) e a none)
        by (Some i) is =
            let (x, source) = source-at i is.1
            (is-declaring s (inverses_seen s inverses) (types_seen s types) e a (name_at s i) is.2) in
            (x, in-group s (inverses_seen s inverses) (types_seen s types) e a (name_at s i) x is.2 source)
