-- The nearest entity that declares an attribute is the first in the row of a line.
use Rattle.std.specs.Prelude.{◌≡◌, ℕ, true, List, Option, None, Some, filter_map}
use Rattle.std.specs.List.{find}
use Rattle.std.proofs.Common.{sym, subst, ◌∙◌, ap}
use Rattle.graphs.specs.Graphs.{Graph, next}
use Rattle.express_syntax.specs.Schemas.{Schema, Declaration, type, entity, skipped, Entity}
use Rattle.schema_semantics.specs.Names.{Name, Among, IsEntity, IsEntityAt}
use Rattle.schema_semantics.specs.Attributes.{AreLines, IsNearest}
use Rattle.schema_names.specs.Numbers.{number_of, HasNumber, IsAt}
use Rattle.schema_names.proofs.Numbers.{what-stands, stands-at, each-number}
use Rattle.schema_explicit_attributes.proofs.Having.{included, includes-it}
use Rattle.schema_explicit_attributes.specs.declared.own_attributes.Meant.{Meant}
use Rattle.schema_explicit_attributes.specs.SupertypeLines.{HaveLines}
use Rattle.schema_explicit_attributes.specs.steps.Owned.{includes, names_meant, names_in, declares_in, declares_at}
use Rattle.schema_explicit_attributes.specs.steps.Origins.{IsNumberOf}
use Rattle.schema_explicit_attributes.proofs.Firsts.{find-once, first-forth, first-back}

module _ (s : Schema) (m : Meant) (a : Name) where
  -- the entity of this name declares it
  abbrev pub DeclaresIt : Name → Type 0
  DeclaresIt n = (e : Entity) × IsEntityAt s n e × Among a (names_meant m e)

  declared-forth : (n : Name) (j : ℕ) → HasNumber s n j → declares_at s m a j ≡ true → DeclaresIt n
  declared-forth n j k d =
      let (x, at, named) = what-stands s n j k in
      by x at (subst (λ (o : Option Declaration). declares_in m a o ≡ true) at d)
    where
      by : (x : Declaration) → IsAt s j x → includes (names_in m x) a ≡ true → DeclaresIt n
      by (type t) at h = absurd (cc)
      by (entity e) at h = (e, stands-at s n j k ∙ at, included (names_meant m e) a h)
      by (skipped p) at h = absurd (cc)

  declared-back : (n : Name) (j : ℕ) → HasNumber s n j → DeclaresIt n → declares_at s m a j ≡ true
  declared-back n j k (e, at, among) =
      subst (λ (o : Option Declaration). declares_in m a o ≡ true) (sym at ∙ stands-at s n j k)
      (includes-it (names_meant m e) a among)

  counted : (n : Name) → DeclaresIt n → (j : ℕ) × HasNumber s n j
  counted n (e, at, among) = each-number 0 s.declarations n (entity e) at

  pub nearest-is : (rows : Graph) → HaveLines s rows → (q : Name) (i : ℕ) → IsEntity s q → HasNumber s q i
      → (o : Option ℕ) → o ≡ find (declares_at s m a) (next rows i) → IsNumberOf s (IsNearest s DeclaresIt q) o
  nearest-is rows h q i ent k o e = by o e
    where
      first : (line : Name → List Name) → AreLines s line
          → find (declares_at s m a) (next rows i) ≡ find (declares_at s m a) (filter_map (number_of s) (line q))
      first line lines =
          ap (find (declares_at s m a)) (h.each line lines q i ent k)
          ∙ find-once (declares_at s m a) (filter_map (number_of s) (line q))

      by : (o : Option ℕ) → o ≡ find (declares_at s m a) (next rows i) → IsNumberOf s (IsNearest s DeclaresIt q) o
      by None e = λ p (_, line, lines, f).
          first-back s DeclaresIt (declares_at s m a) declared-forth declared-back counted (line q) p f
          (sym (e ∙ first line lines))
      by (Some j) e =
          let (line, lines) = h.some in
          let (p, l, f) =
          first-forth s DeclaresIt (declares_at s m a) declared-forth declared-back counted (line q) j
          (sym (e ∙ first line lines)) in
          (p, l, (ent, line, lines, f))
