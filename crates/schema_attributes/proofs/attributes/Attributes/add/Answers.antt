use Rattle.std.proofs.Common.{rules, ◌∙◌, ◌++◌, ◌∷◌, [], Some, ap, cond}
use Rattle.std.proofs.lemmas.Result.{on_ok_weaker}
use Rattle.indexmap.specs.IndexMap.{get}
use Rattle.schema_names.specs.Words.{same_word}
use Rattle.schema_attributes.specs.steps.Declarations.{row_in}
use Rattle.schema_attributes.specs.declared.row.Row.TheVariants as rows
use Rattle.schema_attributes.proofs.ByName.{adds-one}
use Rattle.schema_attributes.proofs.attributes.Attributes.add.Goals as goal

pub returns-in-Some : goal.returns-in-Some
returns-in-Some c =
    let d = c.args.declaration in
    let row = c.push.new.self in
    let there = c.in-Some.ensures.value in
    let written = (c.get_mut.follows.holds row).3 (search rules) in
    on_ok_weaker c.push.result (λ more.
    adds-one c.args.self.now (record { rows = c.get_mut.follows.lender row }) c.args.name d row written.0
    (more ∙ ap (λ r. row_in r ++ d ∷ []) there)) c.push.ensures

pub returns : goal.returns
returns c =
    let d = c.args.declaration in
    let name = c.args.name in
    let none = c.in_default.ensures.value in
    adds-one c.args.self.now (record { rows = c.insert.new.self }) name d (rows.One d)
    (λ w. c.in_ok-insert.ensures.updates.0 w
    ∙ ap (λ m. cond (same_word name w) (Some (rows.One d)) (get same_word m w)) c.get_mut.follows.holds-at-none)
    (ap (λ r. row_in r ++ d ∷ []) none)
