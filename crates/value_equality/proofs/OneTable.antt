-- `==` of tables decides that they are the same.
use Rattle.std.proofs.Common.{◌≡◌, ℕ, Bool, true, false, List, [], ◌∷◌, map, Decides, refl, sym, ◌∙◌, ap, eqb-true, eq-eqb}
use Rattle.std.specs.Prelude.{◌==◌, ◌&&◌}
use Rattle.std.specs.Cmp.Lexicographic.{pointwise}
use Rattle.std.proofs.lemmas.Bool.{and_parts, and_from}
use Rattle.value_equality.specs.declared.table.Origin.{Origin}
use Rattle.value_equality.specs.declared.table.Origin.TheVariants.{Start, Split}
use Rattle.value_equality.specs.declared.table.Table.{Table}
use Rattle.value_equality.specs.Tables as tables
use Rattle.value_equality.specs.TableViews.{origin_of, member_of, table_of, origin_eq, table_eq}

abbrev origin_test : tables.Origin → tables.Origin → Bool
origin_test tables.Origin.start tables.Origin.start = true
origin_test (tables.Origin.split p r) (tables.Origin.split q s) = (p == q) && (r == s)
origin_test _ _ = false

tested : (o u : Origin) → origin_eq o u ≡ origin_test (origin_of o) (origin_of u)
tested Start Start = refl
tested (Split p r) (Split q s) = refl
tested _ _ = refl

decided : (a b : tables.Origin) → Decides (origin_test a b) (a ≡ b)
decided tables.Origin.start tables.Origin.start = (λ _. refl, λ _. refl)
decided (tables.Origin.split p r) (tables.Origin.split q s) = (
  λ e. let parts = and_parts (p == q) (r == s) e in let one : p ≡ q = eqb-true p q parts.0 in let two : r ≡ s =
      eqb-true r s parts.1 in cc,
  λ e. and_from (p == q) (r == s) (eq-eqb p q (cc)) (eq-eqb r s (cc)),
)
decided _ _ = (λ e. absurd (cc), λ e. absurd (cc))

pub origins_decide : (o u : Origin) → Decides (origin_eq o u) (origin_of o ≡ origin_of u)
origins_decide o u = (
  λ e. (decided (origin_of o) (origin_of u)).0 (sym (tested o u) ∙ e),
  λ e. tested o u ∙ (decided (origin_of o) (origin_of u)).1 e,
)

classes_decide : (os us : List Origin) → Decides (pointwise origin_eq os us) (map origin_of os ≡ map origin_of us)
classes_decide [] [] = (λ _. refl, λ _. refl)
classes_decide [] (u ∷ us) = (λ e. absurd (cc), λ e. absurd (cc))
classes_decide (o ∷ os) [] = (λ e. absurd (cc), λ e. absurd (cc))
classes_decide (o ∷ os) (u ∷ us) = (
  λ e. let parts = and_parts (origin_eq o u) (pointwise origin_eq os us) e in
      let one : origin_of o ≡ origin_of u = (origins_decide o u).0 parts.0 in
      let rest : map origin_of os ≡ map origin_of us = (classes_decide os us).0 parts.1 in cc,
  λ e. and_from (origin_eq o u) (pointwise origin_eq os us) ((origins_decide o u).1 (cc))
      ((classes_decide os us).1 (cc)),
)

abbrev member_test : ℕ × ℕ → ℕ × ℕ → Bool
member_test m n = (m.0 == n.0) && (m.1 == n.1)

member_decides : (m n : ℕ × ℕ) → Decides (member_test m n) (m ≡ n)
member_decides m n = (
  λ e. let parts = and_parts (m.0 == n.0) (m.1 == n.1) e in
      ap (λ y. (y, m.1)) (eqb-true m.0 n.0 parts.0) ∙ ap (λ c. (n.0, c)) (eqb-true m.1 n.1 parts.1),
  λ e. and_from (m.0 == n.0) (m.1 == n.1) (eq-eqb m.0 n.0 (ap (λ (k : ℕ × ℕ). k.0) e))
      (eq-eqb m.1 n.1 (ap (λ (k : ℕ × ℕ). k.1) e)),
)

members_decide : (ms ns : List (ℕ × ℕ)) → Decides (pointwise member_test ms ns) (map member_of ms ≡ map member_of ns)
members_decide [] [] = (λ _. refl, λ _. refl)
members_decide [] (n ∷ ns) = (λ e. absurd (cc), λ e. absurd (cc))
members_decide (m ∷ ms) [] = (λ e. absurd (cc), λ e. absurd (cc))
members_decide (m ∷ ms) (n ∷ ns) = (
  λ e. let parts = and_parts (member_test m n) (pointwise member_test ms ns) e in
      let one : m ≡ n = (member_decides m n).0 parts.0 in
      let rest : map member_of ms ≡ map member_of ns = (members_decide ms ns).0 parts.1 in cc,
  λ e. and_from (member_test m n) (pointwise member_test ms ns) ((member_decides m n).1 (cc))
      ((members_decide ms ns).1 (cc)),
)

pub tables_decide : (s t : Table) → Decides (table_eq s t) (table_of s ≡ table_of t)
tables_decide s t =
    let classes = classes_decide s.classes.items t.classes.items in
    let members = members_decide s.members.items t.members.items in (
      λ e. let parts = and_parts (s.rounds == t.rounds) (pointwise origin_eq s.classes.items t.classes.items
          && pointwise member_test s.members.items t.members.items) e in
          let others = and_parts (pointwise origin_eq s.classes.items t.classes.items)
          (pointwise member_test s.members.items t.members.items) parts.1 in
          let rounds : s.rounds ≡ t.rounds = eqb-true s.rounds t.rounds parts.0 in
          let same : map origin_of s.classes.items ≡ map origin_of t.classes.items = classes.0 others.0 in
          let held : map member_of s.members.items ≡ map member_of t.members.items = members.0 others.1 in cc,
      λ e. and_from (s.rounds == t.rounds) (pointwise origin_eq s.classes.items t.classes.items
          && pointwise member_test s.members.items t.members.items)
          (eq-eqb s.rounds t.rounds (ap (λ (u : tables.Table). u.rounds) e))
          (and_from (pointwise origin_eq s.classes.items t.classes.items)
          (pointwise member_test s.members.items t.members.items)
          (classes.1 (ap (λ (u : tables.Table). u.classes) e)) (members.1 (ap (λ (u : tables.Table). u.members) e))),
    )
