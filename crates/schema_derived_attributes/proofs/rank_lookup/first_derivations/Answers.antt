use Rattle.schema_derived_attributes.proofs.Asking.{first-next, counted-next}
use Rattle.std.proofs.Common.{◌≡◌, ◌+◌, ◌∙◌, ◌<◌, ap, arith, length, get_or, sym, ◌∷◌, []}
use Rattle.std.proofs.lemmas.List.{length-append}
use Rattle.schema_attributes.specs.Derivations.{derivations_in}
use Rattle.express_syntax.specs.Views.{declaration_of}
use Rattle.schema_derived_attributes.proofs.rank_lookup.first_derivations.Goals as goal

pub loop-declaration-preserved : goal.loop-declaration-preserved
loop-declaration-preserved c =
    let xs = c.args.names.now.schema.now.declarations.items in
    let i = c.loop-declaration.declaration-index in
    let x = c.declaration-item.result in
    let whole : length c.declarations-declaration-items.result.now ≡ length xs =
    ap length c.declarations-declaration-items.ensures in
    let lt : i < length xs = omega (arith, c.loop-declaration-test.true, whole) in
    let at : x ≡ get_or xs i x = c.declaration-item.is ∙ ap (λ ys. get_or ys i x) c.declarations-declaration-items.ensures in
    record {
      long =
          let more : length c.push.new.self.items ≡ length c.loop-declaration.firsts.items + 1 =
          ap length c.in_ok-push.ensures.items ∙ length-append c.loop-declaration.firsts.items
          (c.loop-declaration.count ∷ []) in
          let before = c.loop-declaration.invariant.long in
          omega (arith, more, before);
      each = counted-next declaration_of xs i x c.loop-declaration.firsts.items c.push.new.self.items
          c.loop-declaration.count lt at c.loop-declaration.invariant.long c.loop-declaration.invariant.each
          c.loop-declaration.invariant.next c.in_ok-push.ensures.items;
      next = c.in_ok-count.ensures
          ∙ ap (λ n. n + length (derivations_in (declaration_of x))) c.loop-declaration.invariant.next
          ∙ sym (first-next declaration_of xs i x lt at);
    }
