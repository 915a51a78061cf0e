-- Entities that are supertypes of themselves, and defined types that are made of themselves.
use Rattle.std.specs.Prelude.{◌≡◌, ℕ, List, [], ◌∷◌, map, Option, None, Some, filter_map, Result, Ok, Err, IfOk}
use Rattle.std.proofs.Common.{refl, inl, inr, ap, sym, subst, ◌∙◌}
use Rattle.graphs.specs.Graphs.{Graph}
use Rattle.graphs.specs.Closures.{IsFirstCyclic}
use Rattle.step_literals.specs.declared.literal.Word.{Word}
use Rattle.express_syntax.specs.ExpressionViews.{capitals}
use Rattle.express_syntax.specs.Schemas.{Schema, Declaration, type, entity, skipped, Entity, TypeDeclaration, DataType, named}
use Rattle.express_syntax.specs.Views.{if_some}
use Rattle.express_syntax.specs.declared.fault.NameFault.TheVariants.{SupertypeCycle, TypeCycle}
use Rattle.schema_semantics.specs.Names.{Name, Among, IsFirst, entities_of, type_declarations_of, declared_name, IsMadeOf, IsSubtypeOf}
use Rattle.schema_semantics.specs.Faults.{IsAboveItself, IsMadeOfItself}
use Rattle.schema_semantics.proofs.Lists.{first-step, first-holds}
use Rattle.schema_names.specs.Numbers.{HasNumber, IsAt}
use Rattle.schema_names.specs.Edges.{IsGraphOf, supertypes_in, parts_in}
use Rattle.schema_names.proofs.Numbers.{each-number}
use Rattle.schema_names.proofs.Carried.{reached-are-supertypes, reached-are-parts}
use Rattle.schema_faults.specs.steps.Shown.{IsShown}
use Rattle.schema_faults.specs.steps.FirstNamed.{IsFirstNamed}
use Rattle.schema_faults.proofs.Earliest.{same-some}
use Rattle.schema_faults.proofs.Loops.{AreTurning, none-turns, first-turns}

-- the name of an entity
abbrev pub entity_name : Declaration → Option Name
entity_name (type t) = None
entity_name (entity e) = Some e.name
entity_name (skipped p) = None

-- the name of a defined type
abbrev pub type_name : Declaration → Option Name
type_name (type t) = Some t.name
type_name (entity e) = None
type_name (skipped p) = None

entities-named : (ds : List Declaration) → filter_map entity_name ds ≡ map (λ (e : Entity). e.name) (entities_of ds)
entities-named [] = refl
entities-named (type t ∷ ds) = entities-named ds
entities-named (entity e ∷ ds) = ap (λ ns. e.name ∷ ns) (entities-named ds)
entities-named (skipped p ∷ ds) = entities-named ds

types-named : (ds : List Declaration) → filter_map type_name ds ≡ map (λ (t : TypeDeclaration). t.name) (type_declarations_of ds)
types-named [] = refl
types-named (type t ∷ ds) = ap (λ ns. t.name ∷ ns) (types-named ds)
types-named (entity e ∷ ds) = types-named ds
types-named (skipped p ∷ ds) = types-named ds

entity-called : (d : Declaration) (m n : Name) → Among m (supertypes_in d) → declared_name d ≡ Some n
    → entity_name d ≡ Some n
entity-called (type t) m n among e = elim among [ ]
entity-called (entity x) m n among e = e
entity-called (skipped p) m n among e = elim among [ ]

entity-declared : (d : Declaration) (n : Name) → entity_name d ≡ Some n → declared_name d ≡ Some n
entity-declared (type t) n e = absurd (cc)
entity-declared (entity x) n e = e
entity-declared (skipped p) n e = absurd (cc)

type-called : (d : Declaration) (m n : Name) → Among m (parts_in d) → declared_name d ≡ Some n
    → type_name d ≡ Some n
type-called (type t) m n among e = e
type-called (entity x) m n among e = elim among [ ]
type-called (skipped p) m n among e = elim among [ ]

type-declared : (d : Declaration) (n : Name) → type_name d ≡ Some n → declared_name d ≡ Some n
type-declared (type t) n e = e
type-declared (entity x) n e = absurd (cc)
type-declared (skipped p) n e = absurd (cc)

-- of what is answered
pub ok-also : {A E : Type 0} (P Q : A → Type 0) → ((x : A) → P x → Q x) → (r : Result A E) → IfOk r P → IfOk r Q
ok-also P Q f (Ok x) h = f x h
ok-also P Q f (Err e) h = tt

-- the name is that of the word
word-is : (o : Option Word) (n : Name) (P : Option Word → Type 0) → if_some capitals o ≡ Some n
    → ((w : Word) → capitals w ≡ n → P (Some w)) → P o
word-is None n P e p = absurd (cc)
word-is (Some w) n P e p = p w (same-some (capitals w) n e)

module _ (s : Schema) (g : Graph) (h : IsGraphOf s supertypes_in g) where
  entities-turn : AreTurning s supertypes_in g entity_name (IsAboveItself s)
  entities-turn = record {
    forth = λ n i k r. ((reached-are-supertypes s g h n i k).0 n i k).0 r;
    back = λ n i k b. ((reached-are-supertypes s g h n i k).0 n i k).1 b;
    numbered = λ n b.
        let (m, (e, at, among)) = first-step (IsSubtypeOf s) n n b in
        each-number 0 s.declarations n (entity e) at;
    is_called = entity-called;
    is_declared = entity-declared;
  }

  no-own-supertype : IsFirstCyclic g None → IsShown s SupertypeCycle None
  no-own-supertype none n first =
      none-turns s supertypes_in g entity_name (IsAboveItself s) h entities-turn none n
      (first-holds (IsAboveItself s) (map (λ (e : Entity). e.name) (entities_of s.declarations)) n first)

  own-supertype : (i : ℕ) → IsFirstCyclic g (Some i) → (o : Option Word)
      → ((d : Declaration) → IsAt s i d → if_some capitals o ≡ declared_name d) → IsShown s SupertypeCycle o
  own-supertype i first o is =
      let (d, f) = first-turns s supertypes_in g entity_name (IsAboveItself s) h entities-turn i first in
      word-is o d.name (IsShown s SupertypeCycle) (is d.what d.at ∙ d.declared)
      (λ w e.
      subst (λ ns. IsFirst (IsAboveItself s) ns (capitals w)) (entities-named s.declarations)
      (subst (IsFirst (IsAboveItself s) (filter_map entity_name s.declarations)) (sym e) f))

  pub supertypes-shown : (o : Option Word) → IsFirstNamed s g o → IsShown s SupertypeCycle o
  supertypes-shown o (inl (e, none)) = subst (IsShown s SupertypeCycle) (sym e) (no-own-supertype none)
  supertypes-shown o (inr (i, first, is)) = own-supertype i first o is

module _ (s : Schema) (g : Graph) (h : IsGraphOf s parts_in g) where
  part-number : (n : Name) (k : DataType) → IsMadeOf s (named n) k → (i : ℕ) × HasNumber s n i
  part-number n k (inl (t, at, is)) = each-number 0 s.declarations n (type t) at
  part-number n (named m) (inr (items, (t, at, is), among)) = each-number 0 s.declarations n (type t) at
  part-number n k (inr among) = absurd among

  types-turn : AreTurning s parts_in g type_name (IsMadeOfItself s)
  types-turn = record {
    forth = λ n i k r. ((reached-are-parts s g h n i k).0 n i k).0 r;
    back = λ n i k b. ((reached-are-parts s g h n i k).0 n i k).1 b;
    numbered = λ n b. let (k, step) = first-step (IsMadeOf s) (named n) (named n) b in part-number n k step;
    is_called = type-called;
    is_declared = type-declared;
  }

  no-own-part : IsFirstCyclic g None → IsShown s TypeCycle None
  no-own-part none n first =
      none-turns s parts_in g type_name (IsMadeOfItself s) h types-turn none n
      (first-holds (IsMadeOfItself s) (map (λ (t : TypeDeclaration). t.name) (type_declarations_of s.declarations)) n first)

  own-part : (i : ℕ) → IsFirstCyclic g (Some i) → (o : Option Word)
      → ((d : Declaration) → IsAt s i d → if_some capitals o ≡ declared_name d) → IsShown s TypeCycle o
  own-part i first o is =
      let (d, f) = first-turns s parts_in g type_name (IsMadeOfItself s) h types-turn i first in
      word-is o d.name (IsShown s TypeCycle) (is d.what d.at ∙ d.declared)
      (λ w e.
      subst (λ ns. IsFirst (IsMadeOfItself s) ns (capitals w)) (types-named s.declarations)
      (subst (IsFirst (IsMadeOfItself s) (filter_map type_name s.declarations)) (sym e) f))

  pub parts-shown : (o : Option Word) → IsFirstNamed s g o → IsShown s TypeCycle o
  parts-shown o (inl (e, none)) = subst (IsShown s TypeCycle) (sym e) (no-own-part none)
  parts-shown o (inr (i, first, is)) = own-part i first o is
