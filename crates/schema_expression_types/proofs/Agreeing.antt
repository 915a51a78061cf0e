-- What expressions may be depends on the sets of SELF and of variables by what is in them alone.
use Rattle.std.specs.Prelude.{◌≡◌, ◌≢◌, List, [], ◌∷◌, ◌⊎◌}
use Rattle.std.proofs.Common.{refl, inl, inr, sym, subst, ◌∙◌}
use Rattle.express_syntax.specs.Trees.{Qualifiers, plain, attribute, group, index}
use Rattle.express_syntax.specs.Schemas.{Schema}
use Rattle.schema_semantics.specs.Names.{Name, OneOf, Has}
use Rattle.schema_semantics.specs.Shapes.{Atom, value, instance, an_aggregate}
use Rattle.schema_semantics.specs.Attributes.{Derivation, Derives, MayHaveType}
use Rattle.schema_semantics.specs.Sets.{Set, Elements, WithSubtypes, TakesTwo, AttributeReference, of_set, of_entity, attribute_name, MayTake, IsUnclear, MayUse, OfTaken, Path, path_behind, QueryVariable, IsVariable, OfVariable}

pub record Same (M N : Set) : Type 0 where
  pub to : (x : Atom) → M x → N x
  pub from : (x : Atom) → N x → M x

pub same-back : (M N : Set) → Same M N → Same N M
same-back M N h = record { to = h.from; from = h.to }

pub same-itself : (M : Set) → Same M M
same-itself M = record { to = λ x m. m; from = λ x m. m }

-- the same variables, in what they may be the same
abbrev pub SameVariables : List QueryVariable → List QueryVariable → Type 0
SameVariables [] [] = Unit {0}
SameVariables (v ∷ vs) (w ∷ ws) = (v.name ≡ w.name) × Same v.may w.may × SameVariables vs ws
SameVariables vs ws = ⊥

pub variables-back : (vs ws : List QueryVariable) → SameVariables vs ws → SameVariables ws vs
variables-back [] [] h = tt
variables-back (v ∷ vs) (w ∷ ws) h = (sym h.0, same-back v.may w.may h.1, variables-back vs ws h.2)
variables-back [] (w ∷ ws) h = elim h [ ]
variables-back (v ∷ vs) [] h = elim h [ ]

pub variables-itself : (vs : List QueryVariable) → SameVariables vs vs
variables-itself [] = tt
variables-itself (v ∷ vs) = (refl, same-itself v.may, variables-itself vs)

-- references to one attribute, of sets that are the same
abbrev pub SameReference : AttributeReference → AttributeReference → Type 0
SameReference (of_set M a) (of_set N b) = Same M N × (a ≡ b)
SameReference (of_entity d a) (of_entity e b) = (d ≡ e) × (a ≡ b)
SameReference q r = ⊥

abbrev pub SameReferences : List AttributeReference → List AttributeReference → Type 0
SameReferences [] [] = Unit {0}
SameReferences (q ∷ qs) (r ∷ rs) = SameReference q r × SameReferences qs rs
SameReferences qs rs = ⊥

pub record SamePath (p q : Path) : Type 0 where
  pub attributes : SameReferences p.attributes q.attributes
  pub may : Same p.may q.may

pub reference-back : (q r : AttributeReference) → SameReference q r → SameReference r q
reference-back (of_set M a) (of_set N b) h = (same-back M N h.0, sym h.1)
reference-back (of_entity d a) (of_entity e b) h = (sym h.0, sym h.1)
reference-back (of_set M a) (of_entity e b) h = elim h [ ]
reference-back (of_entity d a) (of_set N b) h = elim h [ ]

pub references-back : (qs rs : List AttributeReference) → SameReferences qs rs → SameReferences rs qs
references-back [] [] h = tt
references-back (q ∷ qs) (r ∷ rs) h = (reference-back q r h.0, references-back qs rs h.1)
references-back [] (r ∷ rs) h = elim h [ ]
references-back (q ∷ qs) [] h = elim h [ ]

name-is : (q r : AttributeReference) → SameReference q r → attribute_name q ≡ attribute_name r
name-is (of_set M a) (of_set N b) h = h.1
name-is (of_entity d a) (of_entity e b) h = h.1
name-is (of_set M a) (of_entity e b) h = elim h [ ]
name-is (of_entity d a) (of_set N b) h = elim h [ ]

-- what holds of one attribute of a path
pub one-of-to : (U : AttributeReference → Type 0) → ((q r : AttributeReference) → SameReference q r → U q → U r)
    → (qs rs : List AttributeReference) → SameReferences qs rs → OneOf U qs → OneOf U rs
one-of-to U keeps [] rs h o = elim o [ ]
one-of-to U keeps (q ∷ qs) (r ∷ rs) (h, more) (inl o) = inl (keeps q r h o)
one-of-to U keeps (q ∷ qs) (r ∷ rs) (h, more) (inr o) = inr (one-of-to U keeps qs rs more o)
one-of-to U keeps (q ∷ qs) [] h o = elim h [ ]

module _ (s : Schema) where
  elements-to : (M N : Set) → Same M N → (x : Atom) → Elements s M x → Elements s N x
  elements-to M N h x (k, w, m, is) = (k, w, h.to (value (an_aggregate k) w) m, is)

  pub elements-same : (M N : Set) → Same M N → Same (Elements s M) (Elements s N)
  elements-same M N h = record { to = elements-to M N h; from = elements-to N M (same-back M N h) }

  subtypes-to : (M N : Set) → Same M N → (x : Atom) → WithSubtypes s M x → WithSubtypes s N x
  subtypes-to M N h (value x w) m = m
  subtypes-to M N h (instance n) (e, m, kind) = (e, h.to (instance e) m, kind)

  pub subtypes-same : (M N : Set) → Same M N → Same (WithSubtypes s M) (WithSubtypes s N)
  subtypes-same M N h = record { to = subtypes-to M N h; from = subtypes-to N M (same-back M N h) }

  pub takes-to : (q r : AttributeReference) → SameReference q r → (p : Name) → MayTake s q p → MayTake s r p
  takes-to (of_set M a) (of_set N b) (h, is) p (e, m, has) =
      (e, h.to (instance e) m, subst (λ n. Has s e p n) is has)
  takes-to (of_entity d a) (of_entity e b) (same, is) p m =
      subst (λ n. MayTake s (of_entity e n) p) is (subst (λ n. MayTake s (of_entity n a) p) same m)
  takes-to (of_set M a) (of_entity e b) h p m = elim h [ ]
  takes-to (of_entity d a) (of_set N b) h p m = elim h [ ]

  two-to : (q r : AttributeReference) → SameReference q r → TakesTwo s q → TakesTwo s r
  two-to (of_set M a) (of_set N b) (h, is) (e, p, q, m, first, second, differ) =
      (e, p, q, h.to (instance e) m, subst (λ n. Has s e p n) is first, subst (λ n. Has s e q n) is second, differ)
  two-to (of_entity d a) r h t = elim t [ ]
  two-to (of_set M a) (of_entity e b) h t = elim h [ ]

  pub unclear-to : (q r : AttributeReference) → SameReference q r → IsUnclear s q → IsUnclear s r
  unclear-to q r h (inl missing) = inl (λ p m. missing p (takes-to r q (reference-back q r h) p m))
  unclear-to q r h (inr two) = inr (two-to q r h two)

  pub use-to : (d : Derivation) (q r : AttributeReference) → SameReference q r → MayUse s d q → MayUse s d r
  use-to d q r h (p, m, from) = (p, takes-to q r h p m, subst (λ n. Derives s p n d) (name-is q r h) from)

  taken-to : (q r : AttributeReference) → SameReference q r → (x : Atom) → OfTaken s q x → OfTaken s r x
  taken-to q r h x (p, k, m, typed, is) =
      (p, k, takes-to q r h p m, subst (λ n. MayHaveType s p n k) (name-is q r h) typed, is)

  pub taken-same : (q r : AttributeReference) → SameReference q r → Same (OfTaken s q) (OfTaken s r)
  taken-same q r h = record { to = taken-to q r h; from = taken-to r q (reference-back q r h) }

  pub behind-same : (qs : Qualifiers) (M N : Set) → Same M N → SamePath (path_behind s M qs) (path_behind s N qs)
  behind-same plain M N h = record { attributes = tt; may = h }
  behind-same (attribute a qs) M N h =
      let q = of_set (WithSubtypes s M) a in
      let r = of_set (WithSubtypes s N) a in
      let same : SameReference q r = (subtypes-same M N h, refl) in
      let rest = behind-same qs (OfTaken s q) (OfTaken s r) (taken-same q r same) in
      record { attributes = (same, rest.attributes); may = rest.may }
  behind-same (group e a qs) M N h =
      let q = of_entity e a in
      let rest = behind-same qs (OfTaken s q) (OfTaken s q) (same-itself (OfTaken s q)) in
      record { attributes = ((refl, refl), rest.attributes); may = rest.may }
  behind-same (index i qs) M N h = behind-same qs (Elements s M) (Elements s N) (elements-same M N h)

  variable-to : (vs ws : List QueryVariable) → SameVariables vs ws → (n : Name) → IsVariable vs n → IsVariable ws n
  variable-to [] ws h n e = elim e [ ]
  variable-to (v ∷ vs) [] h n e = elim h [ ]
  variable-to (v ∷ vs) (w ∷ ws) h n (inl e) = inl (sym h.0 ∙ e)
  variable-to (v ∷ vs) (w ∷ ws) h n (inr e) = inr (variable-to vs ws h.2 n e)

  of-variable-to : (vs ws : List QueryVariable) → SameVariables vs ws → (n : Name) (x : Atom) → OfVariable vs n x
      → OfVariable ws n x
  of-variable-to [] ws h n x e = elim e [ ]
  of-variable-to (v ∷ vs) [] h n x e = elim h [ ]
  of-variable-to (v ∷ vs) (w ∷ ws) h n x (inl (e, m)) = inl (sym h.0 ∙ e, h.1.to x m)
  of-variable-to (v ∷ vs) (w ∷ ws) h n x (inr (e, m)) =
      inr ((λ is. e (h.0 ∙ is)), of-variable-to vs ws h.2 n x m)

  pub variable-same : (vs ws : List QueryVariable) → SameVariables vs ws → (n : Name)
      → Same (OfVariable vs n) (OfVariable ws n)
  variable-same vs ws h n =
      record { to = of-variable-to vs ws h n; from = of-variable-to ws vs (variables-back vs ws h) n }
