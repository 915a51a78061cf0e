-- Names that lead to themselves, by the vertices on a cycle.
use Rattle.std.specs.Prelude.{◌≡◌, ℕ, ◌<◌, List, Option, None, Some, length, filter_map}
use Rattle.std.proofs.Common.{sym, subst, ◌∙◌, arith}
use Rattle.graphs.specs.Graphs.{Graph, Step, Reaches, IsGraph}
use Rattle.graphs.specs.Closures.{IsFirstCyclic}
use Rattle.express_syntax.specs.Schemas.{Schema, Declaration}
use Rattle.schema_semantics.specs.Names.{Name, Among, IsFirst, declared_name}
use Rattle.schema_semantics.proofs.Lists.{first-step, last-step}
use Rattle.schema_names.specs.Numbers.{HasNumber, IsAt}
use Rattle.schema_names.specs.Edges.{IsGraphOf}
use Rattle.schema_names.proofs.Numbers.{what-stands}
use Rattle.schema_faults.proofs.Earliest.{same-some, earliest, first-of}

-- What such a name has to do with the graph of what declarations name, and which names are looked at.
pub record AreTurning (s : Schema) (names : Declaration → List Name) (g : Graph) (called : Declaration → Option Name)
    (Turns : Name → Type 0) : Type 0 where
  pub forth : (n : Name) (i : ℕ) → HasNumber s n i → Reaches g i i → Turns n
  pub back : (n : Name) (i : ℕ) → HasNumber s n i → Turns n → Reaches g i i
  pub numbered : (n : Name) → Turns n → (i : ℕ) × HasNumber s n i
  pub is_called : (d : Declaration) (m n : Name) → Among m (names d) → declared_name d ≡ Some n → called d ≡ Some n
  pub is_declared : (d : Declaration) (n : Name) → called d ≡ Some n → declared_name d ≡ Some n

module _ (s : Schema) (names : Declaration → List Name) (g : Graph) (called : Declaration → Option Name)
    (Turns : Name → Type 0) (h : IsGraphOf s names g) (turning : AreTurning s names g called Turns) where
  pub none-turns : IsFirstCyclic g None → (n : Name) → Turns n → ⊥
  none-turns none n t = let (i, k) = turning.numbered n t in none i (turning.back n i k t)

  -- what is declared at a vertex on a cycle, and the name that has its number
  pub record Declares (i : ℕ) : Type 0 where
    pub what : Declaration
    pub at : IsAt s i what
    pub name : Name
    pub declared : declared_name what ≡ Some name
    pub has_name : called what ≡ Some name
    pub number : HasNumber s name i

  on-cycle : (i : ℕ) → Reaches g i i → Declares i
  on-cycle i r =
      let (a, into) = last-step (Step g) i i r in
      let (c, there, n, m, k) = (h.edges a i).0 into in
      let (d, at, named) = what-stands s n i k in
      let (b, out) = first-step (Step g) i i r in
      let (e, here, p, among, l) = (h.edges i b).0 out in
      let same : e ≡ d = same-some e d (sym here ∙ at) in
      record {
        what = d;
        at = at;
        name = n;
        declared = named;
        has_name = turning.is_called d p n (subst (λ x. Among p (names x)) same among) named;
        number = k;
      }

  pub first-turns : (i : ℕ) → IsFirstCyclic g (Some i) → (d : Declares i)
      × IsFirst Turns (filter_map called s.declarations) d.name
  first-turns i first = (
    here,
    first-of called Turns s.declarations i here.what here.name here.at here.has_name
        (turning.forth here.name i here.number first.0) before,
  )
    where
      here : Declares i
      here = on-cycle i first.0

      before : (j : ℕ) (d : Declaration) (m : Name) → j < i → IsAt s j d → called d ≡ Some m → Turns m → ⊥
      before j d m lt at named t =
          let (k, has, le) = earliest 0 s.declarations j d m at (turning.is_declared d m named) in
          first.1 k (omega (arith, lt, le)) (turning.back m k has t)

-- what lies on a cycle is a declaration
pub cyclic-within : (g : Graph) (i : ℕ) → IsGraph g → IsFirstCyclic g (Some i) → i < length g
cyclic-within g i within first = let (a, into) = last-step (Step g) i i first.0 in within a i into
