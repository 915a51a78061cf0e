use Rattle.std.proofs.Common.{◌∙◌, List, ap, sym, subst}
use Rattle.schema_names.specs.Schemas.{the_schema}
use Rattle.schema_underlying_types.specs.declared.base.Base.{Base}
use Rattle.schema_underlying_types.specs.BaseViews.{base_seen}
use Rattle.schema_underlying_types.specs.Tables.{IsNumberedBase}
use Rattle.schema_underlying_types.specs.BaseEntries.{entry}
use Rattle.schema_underlying_types.proofs.Lookups.{number-says, number-numbered-at}
use Rattle.schema_underlying_types.proofs.lookup.Bases.of_number.Goals as goal

pub returns-clause-says : goal.returns-clause-says
returns-clause-says c known d is =
    let s = the_schema c.args.self.now.names.now in
    ap (base_seen s) (c.entry.ensures ∙ ap (λ (bs : List Base). entry bs c.args.number) c.deref.ensures.value)
    ∙ number-says s c.requires.bases.0 c.args.self.now.table.now c.requires.bases.1 c.args.number known d is

pub returns-clause-numbered : goal.returns-clause-numbered
returns-clause-numbered c =
    let s = the_schema c.args.self.now.names.now in
    subst (IsNumberedBase s)
    (sym (c.entry.ensures ∙ ap (λ (bs : List Base). entry bs c.args.number) c.deref.ensures.value))
    (number-numbered-at s c.requires.bases.0 c.args.self.now.table.now c.requires.bases.1 c.args.number)
