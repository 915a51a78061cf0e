-- What derived attributes say, one after the other.
use Rattle.std.specs.Prelude.{◌≡◌, ℕ, ◌+◌, ◌<◌, List, [], ◌∷◌, ◌++◌, map, flat_map, take, Option, Some, None, length, get_or, slice_get}
use Rattle.std.proofs.Common.{refl, inl, inr, ap, sym, subst, ◌∙◌, arith, zero, suc}
use Rattle.std.proofs.lemmas.List.{append_assoc, append-nil}
use Rattle.express_syntax.specs.Schemas.{Schema, Declaration, type, entity, skipped, Derived}
use Rattle.schema_semantics.specs.Names.{Name, listed}
use Rattle.schema_semantics.specs.Faults.{IsResolved}
use Rattle.schema_semantics.specs.Attributes.{Derivation, IsNth, IsDerivation}
use Rattle.schema_semantics.specs.Ranks.{Self}
use Rattle.schema_names.specs.Numbers.{HasNumber, IsAt}
use Rattle.schema_names.proofs.Numbers.{stands-at}
use Rattle.schema_names.proofs.Rows.{take-more, flat-joined}
use Rattle.schema_explicit_attributes.proofs.OwnNumbers.{own-number-of}
use Rattle.schema_data_types.specs.declared.values.Atom.TheVariants as atoms
use Rattle.schema_data_types.specs.steps.Values.{Holds}
use Rattle.schema_attributes.specs.Derivations.{derivations_in, all_derivations}
use Rattle.schema_derived_attributes.specs.steps.Asked.{deriveds_in}
use Rattle.schema_derived_attributes.proofs.Numbering.{from-at}
use Rattle.schema_unchecked.specs.declared.judgement.Judgement.{Judgement}
use Rattle.schema_unchecked.specs.steps.Judging.{IsJudged, AreJudged}
use Rattle.schema_unchecked.specs.steps.Growing.{IsJudgedAt, AreJudgedInTurn, AddsJudged}
use Rattle.schema_unchecked.proofs.Selves.{self-is, judged-same}

module _ (s : Schema) where
  turn-joined : (ds es : List Derivation) (js ks : List Judgement) → AreJudgedInTurn s ds js → AreJudgedInTurn s es ks
      → AreJudgedInTurn s (ds ++ es) (js ++ ks)
  turn-joined [] es [] ks h k = k
  turn-joined [] es (j ∷ js) ks h k = elim h [ ]
  turn-joined (d ∷ ds) es [] ks h k = elim h [ ]
  turn-joined (d ∷ ds) es (j ∷ js) ks h k = (h.0, turn-joined ds es js ks h.1 k)

  turn-long : (ds : List Derivation) (js : List Judgement) → AreJudgedInTurn s ds js → length js ≡ length ds
  turn-long [] [] h = refl
  turn-long [] (j ∷ js) h = elim h [ ]
  turn-long (d ∷ ds) [] h = elim h [ ]
  turn-long (d ∷ ds) (j ∷ js) h = ap suc (turn-long ds js h.1)

  turn-at : (ds : List Derivation) (js : List Judgement) (i : ℕ) (d : Derivation) (j : Judgement)
      → AreJudgedInTurn s ds js → slice_get ds i ≡ Some d → slice_get js i ≡ Some j → IsJudgedAt s d j
  turn-at [] js i d j h e f = absurd (cc)
  turn-at (x ∷ ds) [] i d j h e f = absurd (cc)
  turn-at (x ∷ ds) (y ∷ js) zero d j h e f =
      let one : x ≡ d = cc in
      let other : y ≡ j = cc in
      subst (λ z. IsJudgedAt s z j) one (subst (IsJudgedAt s x) other h.0)
  turn-at (x ∷ ds) (y ∷ js) (suc i) d j h e f = turn-at ds js i d j h.1 e f

  pub adds-none : (old : List Judgement) → AddsJudged s old [] old
  adds-none old = ([], sym (append-nil old), tt)

  pub adds-joined : (a b c : List Judgement) (ds es : List Derivation) → AddsJudged s a ds b → AddsJudged s b es c
      → AddsJudged s a (ds ++ es) c
  adds-joined a b c ds es (js, is, h) (ks, at, k) =
      (js ++ ks, at ∙ ap (λ xs. xs ++ ks) is ∙ append_assoc a js ks, turn-joined ds es js ks h k)

  pub adds-all : (new : List Judgement) → AddsJudged s [] (all_derivations s) new → AreJudged s new
  adds-all new (js, is, h) = record {
    same = ap length is ∙ turn-long (all_derivations s) js h;
    each = λ i d x j e der f.
        turn-at (all_derivations s) js i d j h e (sym (ap (λ xs. slice_get xs i) is) ∙ f) x der;
  }

  nth-one : (ds : List Derived) (i : ℕ) (x y : Derived) → slice_get ds i ≡ Some x → IsNth ds i y → y ≡ x
  nth-one [] i x y e n = absurd (cc)
  nth-one (d ∷ ds) zero x y e n = let same : d ≡ x = cc in sym n ∙ same
  nth-one (d ∷ ds) (suc i) x y e n = nth-one ds i x y e n

  nth-of : (ds : List Derived) (i : ℕ) (x : Derived) → slice_get ds i ≡ Some x → IsNth ds i x
  nth-of [] i x e = absurd (cc)
  nth-of (d ∷ ds) zero x e = let same : d ≡ x = cc in same
  nth-of (d ∷ ds) (suc i) x e = nth-of ds i x e

  pub value-of : {A : Type 0} (xs : List A) (i : ℕ) (x : A) → slice_get xs i ≡ Some x → (i < length xs) × (x ≡ get_or xs i x)
  value-of [] i x e = absurd (cc)
  value-of (y ∷ xs) zero x e = (omega arith, (let same : x ≡ y = cc in same))
  value-of (y ∷ xs) (suc i) x e = let (lt, at) = value-of xs i x e in (omega (arith, lt), at)

  -- one derived attribute more
  pub one-judged : IsResolved s → (n i : ℕ) (d : Declaration) (x : Derived) (j : Judgement) (a b c : List Judgement)
      → IsAt s n d → slice_get (deriveds_in d) i ≡ Some x → IsJudged s (Holds s (atoms.Instance n ∷ [])) x.body j
      → AddsJudged s a (take i (derivations_in d)) b → c ≡ b ++ j ∷ []
      → AddsJudged s a (take (i + 1) (derivations_in d)) c
  one-judged r n i (type t) x j a b c at e is h k = absurd (cc)
  one-judged r n i (skipped p) x j a b c at e is h k = absurd (cc)
  one-judged r n i (entity y) x j a b c at e is h k =
      let own : HasNumber s y.name n = own-number-of s n (entity y) y.name r.once at refl in
      let here = from-at y.name 0 (listed y.derived) i i x (nth-of (listed y.derived) i x e) (omega arith) in
      let value = value-of (derivations_in (entity y)) i (y.name, i) here in
      let judged = judged-same s (Holds s (atoms.Instance n ∷ [])) (Self y.name) (self-is s y.name n own) x.body j is in
      subst (λ ds. AddsJudged s a ds c)
      (sym (take-more (derivations_in (entity y)) i (y.name, i) value.0 value.1))
      (adds-joined a b c (take i (derivations_in (entity y))) ((y.name, i) ∷ []) h
      (j ∷ [], k, ((λ z der. alike own judged z der), tt)))
    where
      alike : HasNumber s y.name n → IsJudged s (Self y.name) x.body j → (z : Derived)
          → IsDerivation s (y.name, i) z → IsJudged s (Self y.name) z.body j
      alike own judged z (w, there, nth) =
          let same : w ≡ y = entity-is w y (sym there ∙ stands-at s y.name n own ∙ at) in
          let one = nth-one (listed y.derived) i x z e (subst (λ v. IsNth (listed v.derived) i z) same nth) in
          subst (λ v. IsJudged s (Self y.name) v.body j) (sym one) judged
        where
          entity-is : (v u : _) → Some (entity v) ≡ Some (entity u) → v ≡ u
          entity-is v u l = cc

  -- one declaration more
  pub declaration-judged : (ds : List Declaration) (i : ℕ) (d : Declaration) (b c : List Judgement) → i < length ds
      → d ≡ get_or ds i d → AddsJudged s [] (flat_map derivations_in (take i ds)) b
      → AddsJudged s b (derivations_in d) c → AddsJudged s [] (flat_map derivations_in (take (i + 1) ds)) c
  declaration-judged ds i d b c lt at h k =
      subst (λ es. AddsJudged s [] es c)
      (sym (ap (flat_map derivations_in) (take-more ds i d lt at) ∙ flat-joined derivations_in (take i ds) (d ∷ [])
      ∙ ap (λ es. flat_map derivations_in (take i ds) ++ es) (append-nil (derivations_in d))))
      (adds-joined [] b c (flat_map derivations_in (take i ds)) (derivations_in d) h k)
