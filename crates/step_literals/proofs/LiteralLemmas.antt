-- Texts that are one token from the first byte to the last.
use Rattle.std.proofs.Common.{◌≡◌, ℕ, ◌-◌, ◌≤◌, ◌<◌, List, [], length, take, drop, sym, ap, ◌∙◌, arith, append-nil, length-take, take-append-drop}
use Rattle.std.proofs.lemmas.List.{take_all, drop_all}
use Rattle.step_literals.specs.Tokens.{TokenKind, Allows, IsNext, NoneAt}
use Rattle.step_literals.specs.Strings.{content_of, IsBrokenAt}

-- the token at the front is the whole text
pub whole_allowed : (k : TokenKind) (t : List ℕ) (n : ℕ) → IsNext k (take n t) (drop n t) → length t ≤ n → Allows k t []
whole_allowed k t n h all = rw (take_all n t all, drop_all n t all) at h.allowed

-- or it isn't, and then the text is no such token
pub not_whole : (k : TokenKind) (t : List ℕ) (n : ℕ) → IsNext k (take n t) (drop n t) → n < length t → Allows k t [] → ⊥
not_whole k t n h less a = omega (
  arith,
  less,
  length-take n t,
  h.longest k t [] (append-nil t ∙ sym (take-append-drop n t)) a,
)

pub none_whole : (k : TokenKind) (t : List ℕ) → NoneAt t → Allows k t [] → ⊥
none_whole k t none a = none k t [] (sym (append-nil t)) a

-- what is broken between the apostrophes
pub broken_content : (t : List ℕ) (n i : ℕ) → n ≤ length t → length t ≤ n → IsBrokenAt (take (n - 1 - 1) (drop 1 t)) i
    → IsBrokenAt (content_of t) i
broken_content t n i low high h =
    let same : take (n - 1 - 1) (drop 1 t) ≡ content_of t = ap (λ k. take k (drop 1 t)) (omega (arith, low, high)) in
    rw same at h
