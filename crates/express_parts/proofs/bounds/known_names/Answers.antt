use Rattle.std.proofs.Common.{rules, ap, ◌∙◌, ◌≡◌, ◌∷◌, length}
use Rattle.express_syntax.specs.Words.{word_of, words_of}
use Rattle.express_syntax.specs.ExpressionViews.{capitals}
use Rattle.express_syntax.specs.Views.{names_of}
use Rattle.express_parts.proofs.BoundSteps.{names_short, names_other, names_next, names_done, names_at, two_words, behind_two, no_words}
use Rattle.express_parts.proofs.bounds.known_names.Goals as goal
use Rattle.express_syntax.proofs.Lists.{map_push}

pub returns-in_default-left : goal.returns-in_default-left
returns-in_default-left c = names_short (words_of c.args.lexemes.now) (names_of c.loop-left.names.items)
    c.loop-left.left.now c.loop-left.invariant c.in_default-left.len_below

pub returns-in_default-name_at : goal.returns-in_default-name_at
returns-in_default-name_at c =
    let ls = c.loop-left.left.now in
    let ws = words_of c.args.lexemes.now in
    let ns = names_of c.loop-left.names.items in
    let t = two_words ls c.first-item.result c.next-item.result c.in-len2-up.len_at_least c.first-item.is c.next-item.is
    in
    names_other ws ns (word_of c.first-item.result) (word_of c.next-item.result ∷ words_of (behind_two ls))
    (names_at ws ns (words_of ls) (word_of c.first-item.result ∷ word_of c.next-item.result
    ∷ words_of (behind_two ls)) c.loop-left.invariant t) c.in_default-name_at.ensures

pub returns-in-loop-left : goal.returns-in-loop-left
returns-in-loop-left c =
    let ls = c.loop-left.left.now in
    let ws = words_of c.args.lexemes.now in
    let ns = names_of c.loop-left.names.items in
    let t = two_words ls c.first-item.result c.next-item.result c.in-len2-up.len_at_least c.first-item.is c.next-item.is
    in
    let e : length (behind_two ls) ≡ 0 = search rules in
    rw c.shrink_to_fit.ensures.items (names_done ws ns (names_of c.push.new.self.items) (word_of c.first-item.result)
    (word_of c.next-item.result) (words_of (behind_two ls)) (capitals c.in-Some.name)
    (names_at ws ns (words_of ls) (word_of c.first-item.result ∷ word_of c.next-item.result
    ∷ words_of (behind_two ls)) c.loop-left.invariant t) c.in-Some.ensures
    (c.shows_mark-in-loop-left-2.ensures.0 c.if-not-shows_mark-2.false) (no_words (behind_two ls) e)
    (ap names_of c.in_ok-push.ensures.items ∙ map_push capitals c.loop-left.names.items c.in-Some.name))

pub loop-left-preserved : goal.loop-left-preserved
loop-left-preserved c =
    let ls = c.loop-left.left.now in
    let ws = words_of c.args.lexemes.now in
    let ns = names_of c.loop-left.names.items in
    let t = two_words ls c.first-item.result c.next-item.result c.in-len2-up.len_at_least c.first-item.is c.next-item.is
    in
    names_next ws ns (names_of c.push.new.self.items) (word_of c.first-item.result) (word_of c.next-item.result)
    (words_of (behind_two ls)) (capitals c.in-Some.name)
    (names_at ws ns (words_of ls) (word_of c.first-item.result ∷ word_of c.next-item.result ∷ words_of (behind_two ls))
    c.loop-left.invariant t) c.in-Some.ensures (c.shows_mark-in-loop-left.ensures.0 c.if-shows_mark.true)
    (ap names_of c.in_ok-push.ensures.items ∙ map_push capitals c.loop-left.names.items c.in-Some.name)
