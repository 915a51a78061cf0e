use Rattle.std.proofs.Common.{OnOk, subst, sym, ap, ◌∙◌, flat_map}
use Rattle.express_syntax.specs.Views.{underlying_of}
use Rattle.schema_semantics.specs.Faults.{in_scope, enumerated_items}
use Rattle.schema_faults.specs.steps.Repeated.{Sees}
use Rattle.schema_faults.specs.steps.Parts.{word_in}
use Rattle.schema_faults.proofs.Declaring.{words-are}
use Rattle.schema_faults.proofs.parts.see_items.Goals as goal

pub returns-in-Enumeration : goal.returns-in-Enumeration
returns-in-Enumeration c =
    let k = c.args.scope in
    subst (λ ds. OnOk c.see_words.result (Sees c.args.seen.now c.see_words.new.seen ds))
    (ap (flat_map (word_in k)) c.deref.ensures.value ∙ words-are k c.in-Enumeration.items.items
    ∙ ap (λ u. in_scope k (enumerated_items (underlying_of u))) (sym c.in-Enumeration.is)) c.see_words.ensures
