use Rattle.std.proofs.Common.{get_or, sym, ◌∙◌, inl}
use Rattle.express_lexer.proofs.Groups.{group_first, others, others_left}
use Rattle.express_lexer.proofs.FrontLemmas.{none_mark, none_open, next_mark}
use Rattle.express_lexer.proofs.fronts.mark_at.Goals as goal

pub returns-then-starts_with : goal.returns-then-starts_with
returns-then-starts_with c =
    let l = c.args.bytes.now in
    let h = c.requires in
    let first = group_first l others h.some (others_left (get_or l 0 0) h.no_letter h.no_digit h.no_apostrophe
    h.no_quote h.no_percent) in
    inl (none_open l first (sym c.starts_with.ensures.value ∙ c.if-starts_with.true))

pub returns-in_err-mark : goal.returns-in_err-mark
returns-in_err-mark c =
    let l = c.args.bytes.now in
    let h = c.requires in
    let first = group_first l others h.some (others_left (get_or l 0 0) h.no_letter h.no_digit h.no_apostrophe
    h.no_quote h.no_percent) in
    rw c.from_residual.ensures (inl (none_mark l first c.in_err-mark.ensures))

pub returns : goal.returns
returns c =
    let l = c.args.bytes.now in
    let h = c.requires in
    let first = group_first l others h.some (others_left (get_or l 0 0) h.no_letter h.no_digit h.no_apostrophe
    h.no_quote h.no_percent) in
    let found = next_mark l first c.in_ok-mark.mark (sym c.starts_with.ensures.value ∙ c.if-starts_with.false)
    c.in_ok-mark.ensures in
    rw c.text.ensures (record { within = found.0; next = found.1; value = found.2 })
