use Rattle.std.proofs.Common.{refl}
use Rattle.step_records.proofs.Leaves.{spans}
use Rattle.step_records.proofs.builder.leaf_cell.Goals as goal

pub returns : goal.returns
returns c t is =
    let h = spans c.args.text.now t c.args.leaf is.is is.stands in
    rw (c.in_ok-len.ensures, c.dots-dots.ensures, ← is.place, ← is.length) (record {
      reach = refl;
      in_text = (h.within, h.spelt);
      says = λ f. h.says;
    })
