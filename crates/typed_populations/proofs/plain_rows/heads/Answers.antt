use Rattle.std.proofs.Common.{rules, ◌<◌, ◌^◌, ◌∙◌, ◌++◌, ◌∷◌, [], length, get_or, ap, sym, subst, refl, arith}
use Rattle.std.specs.List.{All}
use Rattle.std.proofs.lemmas.List.Elements.{All-nil}
use Rattle.value_equality.specs.Views.{head_names}
use Rattle.typed_populations.proofs.Headed.{heads-next, range-more}
use Rattle.typed_populations.proofs.plain_rows.heads.Goals as goal

pub loop-i-init : goal.loop-i-init
loop-i-init c = record {
  made = c.in_ok-heads.ensures.items;
  range = subst (λ hs. All (λ y. y < 2 ^ 64) (head_names hs)) (sym c.in_ok-heads.ensures.items)
      (All-nil (λ y. y < 2 ^ 64));
}

pub loop-i-preserved : goal.loop-i-preserved
loop-i-preserved c =
    let lt : c.loop-i.i < length c.args.names.now = omega (arith, c.loop-i-test.true) in
    let small : get_or c.args.names.now c.loop-i.i 0 < 18446744073709551616 = search rules in
    record {
      made = heads-next c.args.formless c.args.sections.now c.args.names.now c.args.form_of.now c.loop-i.i
          c.loop-i.heads.items c.push.new.self.items c.requires.sections c.requires.forms lt c.loop-i.invariant.made
          (c.in_ok-push.ensures.items
          ∙ ap (λ k. c.loop-i.heads.items ++ record {
            name = get_or c.args.names.now c.loop-i.i 0;
            section = get_or c.args.sections.now c.loop-i.i 0;
            type_list = k;
          } ∷ []) c.unwrap_or.ensures);
      range = range-more c.loop-i.heads.items c.push.new.self.items _ small c.loop-i.invariant.range
          c.in_ok-push.ensures.items;
    }
