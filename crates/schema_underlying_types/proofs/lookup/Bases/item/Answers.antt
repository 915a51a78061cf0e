use Rattle.std.proofs.Common.{◌≡◌, ◌∙◌, ap, sym, subst, refl, List}
use Rattle.std.proofs.Common.{Some}
use Rattle.std.specs.Option.{option_map}
use Rattle.express_syntax.specs.ExpressionViews.{capitals}
use Rattle.schema_names.specs.Numbers.{HasNumber}
use Rattle.schema_names.specs.Schemas.{the_schema}
use Rattle.schema_underlying_types.specs.declared.base.Base.{Base}
use Rattle.schema_underlying_types.specs.BaseViews.{base_seen}
use Rattle.schema_underlying_types.specs.Tables.{IsNumberedBase}
use Rattle.schema_underlying_types.specs.BaseEntries.{entry, is_entity_at}
use Rattle.schema_underlying_types.proofs.Lookups.{entry-numbered-at, inner-yes, inner-no, no-inner, no-left, no-right}
use Rattle.schema_underlying_types.proofs.lookup.Bases.item.Goals as goal
use Rattle.schema_underlying_types.proofs.lookup.Bases.item.Goals.{else-takes-via-then-takes+else-not-is_entity, else-takes-via-else-takes}

pub returns-then-not-is_entity-clause-numbered : goal.returns-then-not-is_entity-clause-numbered
returns-then-not-is_entity-clause-numbered c =
    let s = the_schema c.args.self.now.names.now in
    let is : c.entry.result ≡ entry c.args.self.now.table.now.by_declaration.items c.in-Some.item =
    c.entry.ensures ∙ ap (λ (ds : List Base). entry ds c.in-Some.item) c.deref.ensures.value in
    subst (IsNumberedBase s) (sym is)
    (entry-numbered-at s c.requires.bases.0 c.args.self.now.table.now c.requires.bases.1 (capitals c.args.name)
    c.in-Some.item (sym c.find.ensures ∙ c.in-Some.is))

pub returns-then-not-is_entity-clause-says : goal.returns-then-not-is_entity-clause-says
returns-then-not-is_entity-clause-says c d is m k =
    let s = the_schema c.args.self.now.names.now in
    let n = capitals c.args.name in
    let j = c.in-Some.item in
    let same : c.entry.result ≡ entry c.args.self.now.table.now.by_declaration.items j =
    c.entry.ensures ∙ ap (λ (ds : List Base). entry ds j) c.deref.ensures.value in
    let l : HasNumber s n j = sym c.find.ensures ∙ c.in-Some.is in
    ap (λ (b : Base). option_map (base_seen s) (Some b)) same
    ∙ inner-yes s c.requires.bases.0 c.args.self.now.table.now c.requires.bases.1 d is m n j l c.takes.result
    c.is_entity.result (c.takes.ensures d is m n k l) c.is_entity.ensures c.if-takes.true c.if-not-is_entity.true

pub returns-else-takes-clause-says : goal.returns-else-takes-clause-says
returns-else-takes-clause-says c d is m k =
    let s = the_schema c.args.self.now.names.now in
    let n = capitals c.args.name in
    let j = c.in-Some.item in
    let l : HasNumber s n j = sym c.find.ensures ∙ c.in-Some.is in
    elim c.else-takes.branch [
      | else-takes-via-then-takes+else-not-is_entity w ↦
          inner-no s c.requires.bases.0 c.args.self.now.table.now c.requires.bases.1 d is m n j l c.takes.result
          w.is_entity.result (c.takes.ensures d is m n k l) w.is_entity.ensures
          (no-right c.takes.result w.is_entity.result w.if-not-is_entity.false)
      | else-takes-via-else-takes w ↦
          inner-no s c.requires.bases.0 c.args.self.now.table.now c.requires.bases.1 d is m n j l c.takes.result
          (is_entity_at s j) (c.takes.ensures d is m n k l) refl
          (no-left c.takes.result (is_entity_at s j) w.if-takes.false)
    ]

pub returns-in-None-clause-says : goal.returns-in-None-clause-says
returns-in-None-clause-says c d is m k =
    let s = the_schema c.args.self.now.names.now in
    let n = capitals c.args.name in
    no-inner s c.requires.bases.0 c.args.self.now.table.now c.requires.bases.1 d is m n (sym c.find.ensures ∙ c.in-None.is)
