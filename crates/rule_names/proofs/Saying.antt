-- Which strings name which types.
use Rattle.std.specs.Prelude.{◌≡◌, ℕ, zero, suc, ◌+◌, ◌<◌, ◌≤◌, Bool, true, false, ◌&&◌, ◌||◌, ◌↔◌, IsTrue, List, [], ◌∷◌, length, get_or, take, drop, map, Option, Some, None, slice_get}
use Rattle.std.specs.List.{list_any}
use Rattle.std.proofs.Common.{refl, sym, ap, subst, ◌∙◌, inl, inr, arith, drop_of_length-le}
use Rattle.std.proofs.lemmas.List.{take_all}
use Rattle.std.proofs.lemmas.List.Folds.{list_any_more, list_any_at}
use Rattle.step_literals.specs.declared.literal.items.Item.{Item}
use Rattle.express_syntax.specs.Schemas.{Schema, Declaration, type, entity, skipped, TypeDeclaration, named}
use Rattle.schema_semantics.specs.Faults.{IsResolved, declared}
use Rattle.schema_semantics.specs.Names.{Name, Among, IsOrLeads, IsTypeAt, Renames, declared_name}
use Rattle.schema_semantics.proofs.Bools.{is-false}
use Rattle.schema_semantics.proofs.Lists.{are-fresh, first-step}
use Rattle.schema_semantics.proofs.Supertypes.{stands}
use Rattle.schema_names.specs.Numbers.{number_of, HasNumber, IsAt}
use Rattle.schema_names.proofs.Numbers.{what-stands, each-number}
use Rattle.schema_explicit_attributes.proofs.OwnNumbers.{own-number-of}
use Rattle.schema_underlying_types.specs.BaseViews.{name_at}
use Rattle.conformance.specs.Meanings.{says_type, type_names}
use Rattle.conformance.proofs.MeaningOneness.{one_truth}
use Rattle.schema_attribute_sources.specs.SourceViews.{types_seen}
use Rattle.rule_names.specs.steps.Naming.{type_name, types_among, says_one, says_in}

pub one_name : (m n : Name) → Some m ≡ Some n → m ≡ n
one_name m n e = cc

-- the name of a number, as it is found
pub called : (s : Schema) (i : ℕ) (o : Option Name) → HasNumber s (name_at s i) i
    → ((d : Declaration) → IsAt s i d → o ≡ declared_name d) → o ≡ Some (name_at s i)
called s i o h f = let (d, at, is) = what-stands s (name_at s i) i h in f d at ∙ is

any_mapped : {X Y : Type 0} (f : X → Y) (p : Y → Bool) (xs : List X) → list_any (λ x. p (f x)) xs ≡ list_any p (map f xs)
any_mapped f p [] = refl
any_mapped f p (x ∷ xs) = ap (λ b. p (f x) || b) (any_mapped f p xs)

-- one of some types after the other
module _ (s : Schema) (text : List Item) (types : List ℕ) where
  abbrev pub says_number : ℕ → Bool
  says_number i = says_type s text (name_at s i)

  pub none_more : (i : ℕ) → i < length types → list_any says_number (take i types) ≡ false
      → false ≡ says_number (get_or types i 0) → list_any says_number (take (i + 1) types) ≡ false
  none_more i lt before here = list_any_more says_number types i 0 lt ∙ (λ k. before k || sym here k)

  pub one_more : (i : ℕ) → i < length types → true ≡ says_number (get_or types i 0)
      → true ≡ list_any (says_type s text) (types_seen s types)
  one_more i lt here =
      sym (list_any_at says_number types i 0 lt (sym here)) ∙ any_mapped (name_at s) (says_type s text) types

  pub none_left : (i : ℕ) → length types ≤ i → list_any says_number (take i types) ≡ false
      → false ≡ list_any (says_type s text) (types_seen s types)
  none_left i le before =
      sym (sym (ap (list_any says_number) (take_all i types le)) ∙ before)
      ∙ any_mapped (name_at s) (says_type s text) types

-- a defined type has the number of its place
pub type_number : (s : Schema) → IsResolved s → (i : ℕ) (d : Declaration) (n : Name) → IsAt s i d → Some n ≡ type_name d
    → HasNumber s n i
type_number s r i (type t) n at e = own-number-of s i (type t) n r.once at (sym e)
type_number s r i (entity x) n at e = absurd (cc)
type_number s r i (skipped p) n at e = absurd (cc)

and_false : (b c : Bool) → c ≡ false → (b && c) ≡ false
and_false true c e = e
and_false false c e = refl

none_any : (p : Name → Bool) (xs : List Name) → ((x : Name) → Among x xs → p x ≡ false) → list_any p xs ≡ false
none_any p [] f = refl
none_any p (x ∷ xs) f = λ k. f x (inl refl) k || none_any p xs (λ y m. f y (inr m)) k

type_there : (ds : List Declaration) (n : Name) → Among n (types_among ds) → (t : TypeDeclaration) × Among (type t) ds
    × (t.name ≡ n)
type_there [] n m = elim m [ ]
type_there (type t ∷ ds) n (inl e) = (t, inl refl, e)
type_there (type t ∷ ds) n (inr m) = let (u, k, e) = type_there ds n m in (u, inr k, e)
type_there (entity x ∷ ds) n m = let (u, k, e) = type_there ds n m in (u, inr k, e)
type_there (skipped p ∷ ds) n m = let (u, k, e) = type_there ds n m in (u, inr k, e)

-- the name of a defined type stands for it
pub stands_for : (s : Schema) → IsResolved s → (n : Name) → Among n (type_names s) → (t : TypeDeclaration) × IsTypeAt s n t
stands_for s r n m =
    let (t, there, e) = type_there s.declarations n m in
    (t, stands 1 s.declarations (type t) n (are-fresh (declared s) r.once) there (ap Some e))

-- a name that isn't declared
pub undeclared : (s : Schema) → IsResolved s → (m : Name) → None ≡ number_of s m → (t : TypeDeclaration) → IsTypeAt s m t → ⊥
undeclared s r m e t at =
    let (i, k) = each-number 0 s.declarations m (type t) at in
    let both : None ≡ Some i = e ∙ k in absurd (cc)

module _ (s : Schema) (defined : Name → Name → Bool) (text : List Item) (m : Name) where
  pub isnt_said : (o : Option Declaration) (d : Declaration) → o ≡ Some d → None ≡ type_name d
      → false ≡ says_in s defined text m o
  isnt_said o d e k = by d k ∙ sym (ap (says_in s defined text m) e)
    where
      by : (d : Declaration) → None ≡ type_name d → false ≡ says_in s defined text m (Some d)
      by (type t) k = absurd (cc)
      by (entity x) k = refl
      by (skipped p) k = refl

  pub is_said : (o : Option Declaration) (d : Declaration) (n : Name) → o ≡ Some d → Some n ≡ type_name d
      → (says_type s text n && defined m n) ≡ says_in s defined text m o
  is_said o d n e k = by d k ∙ sym (ap (says_in s defined text m) e)
    where
      by : (d : Declaration) → Some n ≡ type_name d → (says_type s text n && defined m n) ≡ says_in s defined text m (Some d)
      by (type t) k = ap (λ l. says_type s text l && defined m l) (one_name n t.name k)
      by (entity x) k = absurd (cc)
      by (skipped p) k = absurd (cc)

  said_next : (ds : List Declaration) (i : ℕ) → i < length ds
      → says_one s defined text m (drop i ds)
      ≡ (says_in s defined text m (slice_get ds i) || says_one s defined text m (drop (suc i) ds))
  said_next [] i lt = absurd (omega (arith, lt))
  said_next (type t ∷ ds) zero lt = refl
  said_next (entity x ∷ ds) zero lt = refl
  said_next (skipped p ∷ ds) zero lt = refl
  said_next (d ∷ ds) (suc i) lt = said_next ds i (omega (arith, lt))

  module _ (ds : List Declaration) (i : ℕ) (before : says_one s defined text m (drop i ds) ≡ says_one s defined text m ds) where
    pub said_on : i < length ds → false ≡ says_in s defined text m (slice_get ds i)
        → says_one s defined text m (drop (i + 1) ds) ≡ says_one s defined text m ds
    said_on lt here =
        let next : i + 1 ≡ suc i = omega arith in
        ap (λ j. says_one s defined text m (drop j ds)) next
        ∙ ap (λ b. b || says_one s defined text m (drop (suc i) ds)) here ∙ sym (said_next ds i lt) ∙ before

    pub said_here : i < length ds → true ≡ says_in s defined text m (slice_get ds i) → true ≡ says_one s defined text m ds
    said_here lt here =
        ap (λ b. b || says_one s defined text m (drop (suc i) ds)) here ∙ sym (said_next ds i lt) ∙ before

    pub said_never : length ds ≤ i → false ≡ says_one s defined text m ds
    said_never le = sym (ap (says_one s defined text m) (drop_of_length-le ds le)) ∙ before

  -- a name that isn't declared is defined by nothing
  pub says_nothing : IsResolved s → None ≡ number_of s m
      → ((n : Name) → IsTrue (defined m n) ↔ IsOrLeads (Renames s) (named m) (named n))
      → false ≡ says_one s defined text m s.declarations
  says_nothing r none tells =
      sym (none_any (λ n. says_type s text n && defined m n) (types_among s.declarations)
      (λ n k. and_false (says_type s text n) (defined m n) (is-false (defined m n) (λ h. leads n k ((tells n).0 h)))))
    where
      leads : (n : Name) → Among n (type_names s) → IsOrLeads (Renames s) (named m) (named n) → ⊥
      leads n k (inl same) =
          let (t, at) = stands_for s r n k in
          undeclared s r m none t (subst (λ l. IsTypeAt s l t) (sym (name_is m n same)) at)
        where
          name_is : (a b : Name) → named a ≡ named b → a ≡ b
          name_is a b h = cc
      leads n k (inr way) =
          let (x, step) = first-step (Renames s) (named m) (named n) way in undeclared s r m none step.0 step.1

-- what is told of a name by its number
pub defined_told : (result b : Bool) {P : Type 0} → IsTrue result ↔ P → IsTrue b ↔ P → result ≡ b
defined_told result b f g = one_truth result b (λ h. g.1 (f.0 h)) (λ h. f.1 (g.0 h))
