use Rattle.std.proofs.Common.{rules, ◌<◌, ◌^◌, ap, sym, subst, arith, refl}
use Rattle.std.specs.Prelude.{map}
use Rattle.std.specs.List.{All}
use Rattle.std.proofs.lemmas.List.Elements.{All-nil}
use Rattle.value_equality.specs.Rows.{names}
use Rattle.value_equality.specs.TableViews.{member_of}
use Rattle.row_signatures.proofs.Naming.{names_long}
use Rattle.merge_classes.proofs.Writing.{members_more, members_whole, named_more}
use Rattle.merge_classes.proofs.tables.members.Goals as goal

pub loop-place-init : goal.loop-place-init
loop-place-init c = record {
  members = ap (map member_of) c.in_ok-members.ensures.items;
  names = subst (λ ms. All (λ m. m.0 < 2 ^ 64) (map member_of ms)) (sym c.in_ok-members.ensures.items)
      (All-nil (λ m. m.0 < 2 ^ 64));
}

pub loop-place-preserved : goal.loop-place-preserved
loop-place-preserved c =
    let small : c.name.result < 18446744073709551616 = search rules in
    record {
      members = members_more (names c.args.input.now) c.args.numbers.now c.loop-place.place c.name.result _
          c.loop-place.members.items c.push.new.self.items c.loop-place-test.true c.name.ensures refl
          c.loop-place.invariant.members c.in_ok-push.ensures.items;
      names = named_more c.loop-place.members.items c.push.new.self.items c.name.result _ small
          c.loop-place.invariant.names c.in_ok-push.ensures.items;
    }

pub returns-clause-members : goal.returns-clause-members
returns-clause-members c =
    let each = c.requires in
    let long = names_long c.args.input.now in
    let end = c.loop-place-test.false in
    members_whole (names c.args.input.now) c.args.numbers.now c.loop-place.place _ (omega (arith, each, long, end)) end
    c.loop-place.invariant.members
