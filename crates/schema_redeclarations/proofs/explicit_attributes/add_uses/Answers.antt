use Rattle.std.proofs.Common.{◌∙◌, ◌++◌, ap, sym, get_or}
use Rattle.std.proofs.lemmas.List.{append-nil}
use Rattle.std.proofs.lemmas.Option.{slice_get-get_or}
use Rattle.schema_redeclarations.specs.steps.Speaking.{use_of}
use Rattle.schema_redeclarations.proofs.Going.{added-more, all-taken}
use Rattle.schema_redeclarations.proofs.explicit_attributes.add_uses.Goals as goal

pub loop-place-init : goal.loop-place-init
loop-place-init c = sym (append-nil c.args.uses.now.items)

pub loop-place-preserved : goal.loop-place-preserved
loop-place-preserved c =
    let xs = c.args.places.now in
    let n = c.loop-place.place-index in
    added-more (use_of c.args.data_type c.args.is_optional) xs n (get_or xs n 0) c.args.uses.now.items
    c.loop-place.uses.items c.push.new.self.items (slice_get-get_or xs n 0 c.loop-place-test.true)
    c.loop-place.invariant c.in_ok-push.ensures.items

pub returns : goal.returns
returns c =
    c.loop-place.invariant
    ∙ ap (λ us. c.args.uses.now.items ++ us) (all-taken (use_of c.args.data_type c.args.is_optional) c.args.places.now
    c.loop-place.place-index c.loop-place-test.false)
