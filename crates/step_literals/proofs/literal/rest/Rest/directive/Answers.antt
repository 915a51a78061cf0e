use Rattle.std.proofs.Common.{◌≡◌, ◌<◌, ◌∷◌, ℕ, List, sym, ap, arith, refl, drop, length, get_or}
use Rattle.step_literals.specs.Strings.{clean, backslash, page, shift_at, code_at, groups_at}
use Rattle.step_literals.specs.Items.{items_of}
use Rattle.step_literals.proofs.PieceLemmas.{slash_head, backslash_row, shift_row, page_found, code_row, two_row, four_row}
use Rattle.step_literals.proofs.ItemLemmas.{goes_piece, row_steps}
use Rattle.step_literals.proofs.literal.rest.Rest.directive.Goals as goal

some : {bs : List ℕ} {l : List ℕ} → bs ≡ 92 ∷ l → 0 < length bs
some {bs} {l} e = omega (arith, ap length e)

pub returns-in-Some : goal.returns-in-Some
returns-in-Some c =
    let bs = clean c.args.self.bytes.now in
    let e = slash_head bs c.requires in
    goes_piece bs c.in-Some.after.now backslash c.args.self.page c.args.self.page
    (backslash_row (drop 1 bs) bs e c.in-Some.ensures.0) c.new.ensures.bytes c.in-Some.ensures.1.left
    c.new.ensures.left (λ ps. refl)

pub returns-in-Some-strip : goal.returns-in-Some-strip
returns-in-Some-strip c =
    let bs = clean c.args.self.bytes.now in
    let e = slash_head bs c.requires in
    row_steps shift_at 3 c.args.self.page bs (clean c.in-Some-strip.rest.now) c.shifted.result
    (shift_row (drop 1 bs) bs e c.in_default.ensures c.in-Some-strip.ensures.0) c.in-Some-strip.ensures.1.left
    (omega arith) (some e) c.shifted.ensures

pub returns-in-Some-page_at : goal.returns-in-Some-page_at
returns-in-Some-page_at c =
    let bs = clean c.args.self.bytes.now in
    let e = slash_head bs c.requires in
    goes_piece bs c.in-Some-page_at.after.now (page (get_or bs 2 0)) c.args.self.page c.in-Some-page_at.page
    (page_found (drop 1 bs) bs e c.in_default.ensures c.in_default-strip.ensures c.in-Some-page_at.ensures.0)
    c.new-in-Some-page_at.ensures.bytes
    c.in-Some-page_at.ensures.2.left c.new-in-Some-page_at.ensures.left
    (λ ps. ap (λ p. items_of p ps) (sym c.in-Some-page_at.ensures.1))

pub returns-in-Some-strip-2 : goal.returns-in-Some-strip-2
returns-in-Some-strip-2 c =
    let bs = clean c.args.self.bytes.now in
    let e = slash_head bs c.requires in
    row_steps code_at 3 c.args.self.page bs (clean c.in-Some-strip-2.rest.now) c.coded.result
    (code_row (drop 1 bs) bs e c.in_default.ensures c.in_default-strip.ensures c.in_default-page_at.ensures
    c.in-Some-strip-2.ensures.0)
    c.in-Some-strip-2.ensures.1.left (omega arith) (some e) c.coded.ensures

pub returns-in-Some-strip-3 : goal.returns-in-Some-strip-3
returns-in-Some-strip-3 c =
    let bs = clean c.args.self.bytes.now in
    let e = slash_head bs c.requires in
    row_steps (groups_at 4) 4 c.args.self.page bs (clean c.in-Some-strip-3.rest.now) c.grouped.result
    (two_row (drop 1 bs) bs e c.in_default.ensures c.in_default-strip.ensures c.in_default-page_at.ensures
    c.in_default-strip-2.ensures c.in-Some-strip-3.ensures.0) c.in-Some-strip-3.ensures.1.left (omega arith)
    (some e) c.grouped.ensures

pub returns-in-Some-strip-4 : goal.returns-in-Some-strip-4
returns-in-Some-strip-4 c =
    let bs = clean c.args.self.bytes.now in
    let e = slash_head bs c.requires in
    row_steps (groups_at 8) 4 c.args.self.page bs (clean c.in-Some-strip-4.rest.now) c.grouped-in-Some-strip-4.result
    (four_row (drop 1 bs) bs e c.in_default.ensures c.in_default-strip.ensures c.in_default-page_at.ensures
    c.in_default-strip-2.ensures c.in_default-strip-3.ensures c.in-Some-strip-4.ensures.0)
    c.in-Some-strip-4.ensures.1.left (omega arith) (some e) c.grouped-in-Some-strip-4.ensures
