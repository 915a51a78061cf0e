-- Where a binary ends.
use Rattle.std.proofs.Common.{◌≡◌, ℕ, ◌+◌, ◌≤◌, ◌<◌, List, [], ◌∷◌, ◌++◌, length, get_or, take, drop, refl, sym, ap, ◌∙◌, arith, append_assoc, length-append, take-append-drop}
use Rattle.std.specs.List.{prefix_len}
use Rattle.std.proofs.Math.ListN.{length-take}
use Rattle.std.proofs.lemmas.List.Sums.{prefix_len-le-length}
use Rattle.step_literals.specs.Bytes.{is_hex, Each}
use Rattle.step_literals.specs.Tokens.{TokenKind, binary, Allows, IsNext, NoneAt}
use Rattle.step_literals.proofs.Runs.{begins_with, cut_unique, run_at_prefix, front_back}
use Rattle.step_literals.proofs.Longest.{quote, group, first_group, same_group}

-- the parts of a binary are what stands there
parts : (unused digits_unused : ℕ) (ds digits rest : List ℕ) → Each is_hex ds → (34 ∷ unused ∷ ds ++ 34 ∷ [])
    ++ rest ≡ 34 ∷ digits_unused ∷ digits
    → (unused ≡ digits_unused) × (ds ≡ take (prefix_len is_hex digits) digits)
    × (34 ∷ rest ≡ drop (prefix_len is_hex digits) digits)
parts unused digits_unused ds digits rest h e =
    let run = run_at_prefix is_hex digits in
    let q : 34 ∷ unused ∷ (ds ++ 34 ∷ rest) ≡ 34 ∷ digits_unused ∷ digits = ap (λ l. 34 ∷ unused ∷ l)
    (sym (append_assoc ds (34 ∷ []) rest)) ∙ e in
    let t : ds ++ 34 ∷ rest ≡ digits = cc in
    let cut = cut_unique is_hex ds (take (prefix_len is_hex digits) digits) (34 ∷ rest)
    (drop (prefix_len is_hex digits) digits) h run.passes refl run.stops
    (t ∙ sym (take-append-drop (prefix_len is_hex digits) digits)) in
    let u : unused ≡ digits_unused = cc in
    (u, cut.0, cut.1)

module _ (l r : List ℕ) (h : take 1 l ≡ 34 ∷ []) (hr : r ≡ drop 1 l) where
  none_of : ((unused : ℕ) (ds rest : List ℕ) → 48 ≤ unused → unused ≤ 51 → Each is_hex ds → (ds ≡ [] → unused ≡ 48)
      → (34 ∷ unused ∷ ds ++ 34 ∷ []) ++ rest ≡ 34 ∷ r → ⊥)
      → (k : TokenKind) (other rest : List ℕ) → group k ≡ quote → Allows k other rest → 34 ∷ r ≡ other ++ rest → ⊥
  none_of none binary other rest g a e = none a.0 a.1 rest a.2 a.3 a.4 a.5 (ap (λ x. x ++ rest) (sym a.6) ∙ sym e)
  none_of none _ other rest g a e = cc

  -- where nothing that stands there is a binary, no token is
  none_at : ((unused : ℕ) (ds rest : List ℕ) → 48 ≤ unused → unused ≤ 51 → Each is_hex ds → (ds ≡ [] → unused ≡ 48)
      → (34 ∷ unused ∷ ds ++ 34 ∷ []) ++ rest ≡ 34 ∷ r → ⊥) → NoneAt l
  none_at none k other rest e a =
      let whole : 34 ∷ r ≡ other ++ rest = sym (begins_with 34 l r h hr) ∙ e in
      none_of none k other rest (let p = first_group k other rest (34 ∷ r) a (sym whole) in cc) a whole

  pub none_empty : length r ≡ 0 → NoneAt l
  none_empty zero = none_at (λ unused ds rest low high hex some e. omega (arith, ap length e, zero))

  head_of : (u : ℕ) (ds rest : List ℕ) → (34 ∷ u ∷ ds ++ 34 ∷ []) ++ rest ≡ 34 ∷ r → u ≡ get_or r 0 0
  head_of u ds rest e = ap (λ x. get_or x 1 0) e

  pub none_low : get_or r 0 0 < 48 → NoneAt l
  none_low lt = none_at (λ unused ds rest low high hex some e. omega (arith, head_of unused ds rest e, low, lt))

  pub none_high : 51 < get_or r 0 0 → NoneAt l
  none_high lt = none_at (λ unused ds rest low high hex some e. omega (arith, head_of unused ds rest e, high, lt))

  module _ (digits : List ℕ) (some_left : 0 < length r) (hd : digits ≡ drop 1 r) where
    split : (x : List ℕ) → 0 < length x → x ≡ get_or x 0 0 ∷ drop 1 x
    split [] p = absurd (omega (arith, p))
    split (y ∷ ys) p = refl

    whole : 34 ∷ r ≡ 34 ∷ get_or r 0 0 ∷ digits
    whole = ap (λ x. 34 ∷ x) (split r some_left ∙ ap (λ x. get_or r 0 0 ∷ x) (sym hd))

    pub none_bits : (n : ℕ) → n ≡ prefix_len is_hex digits → n ≡ 0 → (get_or r 0 0 ≡ 48 → ⊥) → NoneAt l
    none_bits n hn zero unused_not =
        none_at (λ unused ds rest low high hex some e.
        let p = parts unused (get_or r 0 0) ds digits rest hex (e ∙ whole) in
        let bare : ds ≡ [] = p.1 ∙ ap (λ k. take k digits) (sym hn ∙ zero) in
        unused_not (sym p.0 ∙ some bare))

    quote_behind : (after rest : List ℕ) → (0 < length after → get_or after 0 0 ≡ 34 → ⊥) → 34 ∷ rest ≡ after → ⊥
    quote_behind after rest no_quote e = no_quote (omega (arith, ap length e)) (ap (λ x. get_or x 0 0) (sym e))

    pub none_open : (n : ℕ) (after : List ℕ) → n ≡ prefix_len is_hex digits → after ≡ drop n digits
        → (0 < length after → get_or after 0 0 ≡ 34 → ⊥) → NoneAt l
    none_open n after hn ha no_quote =
        none_at (λ unused ds rest low high hex some e.
        let p = parts unused (get_or r 0 0) ds digits rest hex (e ∙ whole) in
        quote_behind after rest no_quote (p.2 ∙ ap (λ k. drop k digits) (sym hn) ∙ sym ha))

    -- the binary that the code finds
    module _ (n : ℕ) (after : List ℕ) (hn : n ≡ prefix_len is_hex digits) (ha : after ≡ drop n digits)
        (some_after : 0 < length after) (quoted : get_or after 0 0 ≡ 34)
        (low : 48 ≤ get_or r 0 0) (high : get_or r 0 0 ≤ 51) (bits : n ≡ 0 → get_or r 0 0 ≡ 48) where
      hex : Each is_hex (take n digits)
      hex = rw hn (run_at_prefix is_hex digits).passes

      tail : after ≡ 34 ∷ drop 1 after
      tail = split after some_after ∙ ap (λ b. b ∷ drop 1 after) quoted

      token : List ℕ
      token = 34 ∷ get_or r 0 0 ∷ take n digits ++ 34 ∷ []

      digits_len : length (take n digits) ≡ n
      digits_len = omega (arith, length-take n digits, prefix_len-le-length is_hex digits, hn)

      bare_bits : take n digits ≡ [] → get_or r 0 0 ≡ 48
      bare_bits e = bits (sym digits_len ∙ ap length e)

      all : l ≡ token ++ drop 1 after
      unfolding token
      all =
          begins_with 34 l r h hr ∙ whole ∙ ap (λ x. 34 ∷ get_or r 0 0 ∷ x) (sym (take-append-drop n digits)
          ∙ ap (λ x. take n digits ++ x) (sym ha ∙ tail)
          ∙ sym (append_assoc (take n digits) (34 ∷ []) (drop 1 after)))

      longest_of : (k : TokenKind) (other rest : List ℕ) → group k ≡ quote → Allows k other rest → other ++ rest ≡ token
          ++ drop 1 after → length other ≤ n + 3
      unfolding token
      longest_of binary other rest g a e =
          let p = parts a.0 (get_or r 0 0) a.1 digits rest a.4 (ap (λ x. x ++ rest) (sym a.6) ∙ e ∙ sym all
          ∙ begins_with 34 l r h hr ∙ whole) in
          omega (
            arith,
            ap length a.6,
            length-append a.1 (34 ∷ []),
            ap length p.1,
            length-take (prefix_len is_hex digits) digits,
            prefix_len-le-length is_hex digits,
            hn,
          )
      longest_of _ other rest g a e = absurd (cc)

      token_len : length token ≡ n + 3
      unfolding token
      token_len = omega (arith, digits_len, length-append (take n digits) (34 ∷ []))

      pub binary_at : (n + 3 ≤ length l) × IsNext binary (take (n + 3) l) (drop (n + 3) l)
      unfolding token
      binary_at =
          let own : Allows binary token (drop 1 after) = (get_or r 0 0, take n digits, low, high, hex, bare_bits, refl)
          in
          let cut = front_back l token (drop 1 after) (n + 3) all (sym token_len) in
          let is : IsNext binary token (drop 1 after) = record {
            allowed = own;
            longest = λ k other rest e a. omega (
              arith,
              longest_of k other rest (same_group binary k token (drop 1 after) other rest own a e) a e,
              token_len,
            );
          } in
          (cut.0, rw (cut.1, cut.2) is)
