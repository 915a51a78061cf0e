use Rattle.std.proofs.Common.{◌≡◌, ◌<◌, ◌∙◌, suc, Some, sym, ap, length, map, arith}
use Rattle.value_equality.specs.TableViews.{origin_of}
use Rattle.value_equality.specs.Tables.{ancestor}
use Rattle.merge_output.proofs.FirstHeads.{found_within, noted_there}
use Rattle.merge_output.proofs.first_members.head.Goals as goal

pub index-requires : goal.index-requires
index-requires c =
    let classes = map origin_of c.args.table.now.classes.items in
    let found : ancestor classes c.args.table.now.rounds (suc c.args.member.1) c.args.member.1 ≡ Some c.in-Some.class =
    ap (λ l. ancestor (map origin_of l) c.args.table.now.rounds (suc c.args.member.1) c.args.member.1)
    (sym c.deref.ensures.value) ∙ sym c.class_above.ensures ∙ c.in-Some.is in
    omega (
      arith,
      found_within classes c.args.table.now.rounds (suc c.args.member.1) c.args.member.1 c.in-Some.class
          found,
      c.requires.each,
    )

pub index_mut-requires : goal.index_mut-requires
index_mut-requires c =
    let classes = map origin_of c.args.table.now.classes.items in
    let found : ancestor classes c.args.table.now.rounds (suc c.args.member.1) c.args.member.1 ≡ Some c.in-Some.class =
    ap (λ l. ancestor (map origin_of l) c.args.table.now.rounds (suc c.args.member.1) c.args.member.1)
    (sym c.deref.ensures.value) ∙ sym c.class_above.ensures ∙ c.in-Some.is in
    omega (
      arith,
      found_within classes c.args.table.now.rounds (suc c.args.member.1) c.args.member.1 c.in-Some.class
          found,
      c.requires.each,
    )

pub returns-in-Some-index : goal.returns-in-Some-index
returns-in-Some-index c =
    let classes = map origin_of c.args.table.now.classes.items in
    let found : ancestor classes c.args.table.now.rounds (suc c.args.member.1) c.args.member.1 ≡ Some c.in-Some.class =
    ap (λ l. ancestor (map origin_of l) c.args.table.now.rounds (suc c.args.member.1) c.args.member.1)
    (sym c.deref.ensures.value) ∙ sym c.class_above.ensures ∙ c.in-Some.is in
    let room : c.in-Some.class < length c.args.firsts.now.items =
    omega (
      arith,
      found_within classes c.args.table.now.rounds (suc c.args.member.1) c.args.member.1 c.in-Some.class
          found,
      c.requires.each,
    ) in
    noted_there _ c.args.member.0 c.in-Some.class c.in-Some-index.first c.index.result.now c.args.firsts.now.items found
    room c.index.ensures c.in-Some-index.is
