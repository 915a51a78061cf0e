-- A list whose end was filled.
use Rattle.std.proofs.Common.{◌≡◌, ℕ, ◌+◌, ◌≤◌, List, [], ◌∷◌, ◌++◌, length, take, sym, ap, ◌∙◌, append_assoc, arith, zero, suc, zero-add}
use Rattle.std.specs.Prelude.{Bool, true}
use Rattle.std.specs.Bool.{if◌then◌else◌}
use lib.Seq.{take-take, take-append-le, take_at, take_all}

past : (old rest : List ℕ) (n count : ℕ) → n ≡ length old + count → take n (old ++ rest) ≡ old ++ take count rest
past [] rest n k e = ap (λ m. take m rest) (e ∙ zero-add k)
past (x ∷ old) rest zero k e = absurd (omega arith)
past (x ∷ old) rest (suc n) k e = ap (λ l. x ∷ l) (past old rest n k (omega arith))

-- the front of a list that was made longer
pub front_kept : (old whole grown zeros other : List ℕ) (start len : ℕ) (made : Bool) → whole ≡ grown
    → grown ≡ (if made then (take len old ++ zeros) else other) → made ≡ true → start ≡ length old → start ≤ len
    → take start whole ≡ old
front_kept old whole grown zeros other start len made g w m s l =
    let e : grown ≡ take len old ++ zeros = rw m at w in
    let f : take len old ≡ old = take_all len old (omega arith) in
    ap (take start) (g ∙ e ∙ ap (λ t. t ++ zeros) f) ∙ take_at old zeros start (sym s)

-- what was read into the end of a list stands behind the front
pub filled : (items old whole buffer post tail : List ℕ) (start count len : ℕ)
    → items ≡ take (start + count) (take len ((take start whole ++ (buffer ++ post)) ++ tail))
    → start + count ≤ len → count ≤ length buffer → start ≡ length old → take start whole ≡ old → items ≡ old
    ++ take count buffer
filled items old whole buffer post tail start count len e fits within s w =
    e ∙ take-take (start + count) len _ fits
    ∙ ap (λ l. take (start + count) ((l ++ (buffer ++ post)) ++ tail)) w
    ∙ ap (take (start + count)) (append_assoc old (buffer ++ post) tail)
    ∙ past old ((buffer ++ post) ++ tail) (start + count) count (omega arith)
    ∙ ap (λ l. old ++ l) (ap (take count) (append_assoc buffer post tail) ∙ take-append-le count buffer (post ++ tail)
    within)
