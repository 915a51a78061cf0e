-- What literals of a schema say.
use Rattle.std.proofs.Common.{◌≡◌, ℕ, suc, ◌-◌, Bool, true, false, cond, List, [], ◌∷◌, ◌++◌, length, take, drop, map, refl, sym, ap, subst, ◌∙◌, arith, append-nil, append_assoc, length-append}
use Rattle.std.specs.Prelude.{◌==◌}
use Rattle.std.specs.List.{prefix_len}
use Rattle.std.specs.Str.{IsUtf8, is_utf8, chars}
use Rattle.std.proofs.lemmas.Str.{chars-nil, IsUtf8-from_is_utf8}
use Rattle.std.proofs.lemmas.Bool.Decides.{nat_tests}
use Rattle.std.proofs.Math.Seq.{take-append_seam}
use Rattle.step_literals.specs.Tokens.{doubled}
use Rattle.step_literals.specs.Bytes.{Stops}
use Rattle.step_literals.specs.Strings.{is_high}
use Rattle.step_literals.specs.Items.{run_items}
use Rattle.step_literals.specs.declared.literal.items.Item.TheVariants.{Code, Raw}
use Rattle.step_literals.proofs.Runs.{run_at_prefix}
use Rattle.express_lexer.specs.Meanings.{characters_behind, characters_of}
use Rattle.express_lexer.specs.DoubledApostrophes.{undoubled, left, behind}

-- a run of no bytes says nothing
nothing : run_items [] ≡ []
nothing = by (is_utf8 []) refl
  where
    by : (t : Bool) → is_utf8 [] ≡ t → cond t (map (λ c. Code c) (chars [])) (map (λ b. Raw b) []) ≡ []
    by true h = ap (map (λ c. Code c)) chars-nil
    by false h = refl

-- doubled apostrophes, one by one
undoubled_other : (b : ℕ) (bs : List ℕ) → (b == 39) ≡ false → undoubled (b ∷ bs) ≡ b ∷ undoubled bs
undoubled_other b [] h = refl
undoubled_other b (c ∷ bs) h = rw h refl

undoubled_apostrophe : (b : ℕ) (bs : List ℕ) → b ≡ 39 → undoubled (b ∷ bs) ≡ 39 ∷ undoubled (drop 1 bs)
undoubled_apostrophe b [] h = rw h refl
undoubled_apostrophe b (c ∷ bs) h = rw h refl

undoubled_one : (b : ℕ) (bs : List ℕ) (t : Bool) → (b == 39) ≡ t → undoubled (doubled bs) ≡ bs
    → undoubled (cond t (39 ∷ 39 ∷ doubled bs) (b ∷ doubled bs)) ≡ b ∷ bs
undoubled_one b bs true h ih = let e : b ≡ 39 = grind (arith, nat_tests) in rw e (ap (λ l. 39 ∷ l) ih)
undoubled_one b bs false h ih = undoubled_other b (doubled bs) h ∙ ap (λ l. b ∷ l) ih

pub undoubled_doubled : (bs : List ℕ) → undoubled (doubled bs) ≡ bs
undoubled_doubled [] = refl
undoubled_doubled (b ∷ bs) = undoubled_one b bs (b == 39) refl (undoubled_doubled bs)

-- a byte below 128 ends a run
ends_run : (run : List ℕ) (b : ℕ) (bs : List ℕ) → is_high b ≡ false → characters_behind run (b ∷ bs) ≡ run_items run
    ++ Code b ∷ characters_of bs
ends_run run b bs h = rw h refl

low_first : (run : List ℕ) (b : ℕ) (bs : List ℕ) → is_high b ≡ false → characters_behind run (b ∷ bs) ≡ run_items run
    ++ characters_of (b ∷ bs)
low_first run b bs h =
    ends_run run b bs h ∙ ap (λ l. run_items run ++ l)
    (sym (ends_run [] b bs h ∙ ap (λ l. l ++ Code b ∷ characters_of bs) nothing))

high_other : (b : ℕ) → is_high b ≡ true → (b == 39) ≡ false
high_other b h = grind (arith, nat_tests)

goes_on : (run : List ℕ) (b : ℕ) (bs : List ℕ) → is_high b ≡ true → characters_behind run (b ∷ bs) ≡ characters_behind
    (run ++ b ∷ []) bs
goes_on run b bs h = rw h refl

no_run : (run : List ℕ) (b : ℕ) (bs : List ℕ) → is_high b ≡ false → run_items run ++ characters_of (undoubled (b ∷ bs))
    ≡ run_items (run ++ take (prefix_len is_high (b ∷ bs)) (b ∷ bs))
    ++ characters_of (undoubled (drop (prefix_len is_high (b ∷ bs)) (b ∷ bs)))
no_run run b bs h = rw h (ap (λ l. run_items l ++ characters_of (undoubled (b ∷ bs))) (sym (append-nil run)))

low_one : (run : List ℕ) (b : ℕ) (bs : List ℕ) → is_high b ≡ false → (t : Bool) → (b == 39) ≡ t
    → characters_behind run (undoubled (b ∷ bs)) ≡ run_items (run ++ take (prefix_len is_high (b ∷ bs)) (b ∷ bs))
    ++ characters_of (undoubled (drop (prefix_len is_high (b ∷ bs)) (b ∷ bs)))
low_one run b bs h true q =
    let e : b ≡ 39 = grind (arith, nat_tests) in
    let u = undoubled_apostrophe b bs e in
    ap (characters_behind run) u ∙ low_first run 39 (undoubled (drop 1 bs)) refl
    ∙ ap (λ l. run_items run ++ characters_of l) (sym u) ∙ no_run run b bs h
low_one run b bs h false q =
    let u = undoubled_other b bs q in
    ap (characters_behind run) u ∙ low_first run b (undoubled bs) h ∙ ap (λ l. run_items run ++ characters_of l) (sym u)
    ∙ no_run run b bs h

-- a run and what follows it
one_more : (b : ℕ) (bs : List ℕ) → is_high b ≡ true → prefix_len is_high (b ∷ bs) ≡ suc (prefix_len is_high bs)
one_more b bs h = rw h (omega arith)

run_one : (run : List ℕ) (b : ℕ) (bs : List ℕ) (t : Bool) → is_high b ≡ t
    → characters_behind (run ++ b ∷ []) (undoubled bs) ≡ run_items ((run ++ b ∷ []) ++ take (prefix_len is_high bs) bs)
    ++ characters_of (undoubled (drop (prefix_len is_high bs) bs))
    → characters_behind run (undoubled (b ∷ bs)) ≡ run_items (run ++ take (prefix_len is_high (b ∷ bs)) (b ∷ bs))
    ++ characters_of (undoubled (drop (prefix_len is_high (b ∷ bs)) (b ∷ bs)))
run_one run b bs true h ih =
    ap (characters_behind run) (undoubled_other b bs (high_other b h)) ∙ goes_on run b (undoubled bs) h ∙ ih
    ∙ ap (λ l. run_items l ++ characters_of (undoubled (drop (prefix_len is_high bs) bs)))
    (append_assoc run (b ∷ []) (take (prefix_len is_high bs) bs))
    ∙ ap (λ n. run_items (run ++ take n (b ∷ bs)) ++ characters_of (undoubled (drop n (b ∷ bs))))
    (sym (one_more b bs h))
run_one run b bs false h ih = low_one run b bs h (b == 39) refl

run_by : (run bs : List ℕ) → characters_behind run (undoubled bs) ≡ run_items (run ++ take (prefix_len is_high bs) bs)
    ++ characters_of (undoubled (drop (prefix_len is_high bs) bs))
run_by run [] = sym (ap (λ l. run_items l ++ run_items []) (append-nil run) ∙ ap (λ l. run_items run ++ l) nothing
    ∙ append-nil (run_items run))
run_by run (b ∷ bs) = run_one run b bs (is_high b) refl (run_by (run ++ b ∷ []) bs)

pub run_says : (bs : List ℕ) → characters_of (undoubled bs) ≡ run_items (take (prefix_len is_high bs) bs)
    ++ characters_of (undoubled (drop (prefix_len is_high bs) bs))
run_says bs = run_by [] bs

-- a byte that begins no run
pub apostrophe_says : (b : ℕ) (bs : List ℕ) → b ≡ 39 → characters_of (undoubled (b ∷ bs)) ≡ Code b
    ∷ characters_of (undoubled (drop 1 bs))
apostrophe_says b bs h =
    ap characters_of (undoubled_apostrophe b bs h) ∙ ends_run [] 39 (undoubled (drop 1 bs)) refl
    ∙ ap (λ l. l ++ Code 39 ∷ characters_of (undoubled (drop 1 bs))) nothing
    ∙ ap (λ x. Code x ∷ characters_of (undoubled (drop 1 bs))) (sym h)

pub byte_says : (b : ℕ) (bs : List ℕ) → (b == 39) ≡ false → is_high b ≡ false
    → characters_of (undoubled (b ∷ bs)) ≡ Code b
    ∷ characters_of (undoubled bs)
byte_says b bs h low =
    ap characters_of (undoubled_other b bs h) ∙ ends_run [] b (undoubled bs) low
    ∙ ap (λ l. l ++ Code b ∷ characters_of (undoubled bs)) nothing

-- what is left of an iterator's characters
pub none_begun : (run raw rest : List ℕ) → run ≡ [] → raw ≡ [] → left run raw rest ≡ characters_of (undoubled rest)
none_begun run raw rest e r = rw (e, r, chars-nil) refl

pub run_begun : (run text bs rest : List ℕ) → text ≡ take (prefix_len is_high bs) bs
    → rest ≡ drop (prefix_len is_high bs) bs
    → run ≡ text → is_utf8 text ≡ true → left run [] rest ≡ characters_of (undoubled bs)
run_begun run text bs rest et er e u =
    let says : run_items text ≡ map (λ x. Code x) (chars run) = rw u (ap (λ l. map (λ x. Code x) (chars l)) (sym e)) in
    sym (run_says bs ∙ (λ i. run_items (sym et i) ++ characters_of (undoubled (sym er i)))
    ∙ ap (λ l. l ++ characters_of (undoubled rest)) (says ∙ sym (append-nil _)))

pub raw_begun : (run text bs rest : List ℕ) → text ≡ take (prefix_len is_high bs) bs
    → rest ≡ drop (prefix_len is_high bs) bs
    → run ≡ [] → is_utf8 text ≡ false → left run text rest ≡ characters_of (undoubled bs)
raw_begun run text bs rest et er e u =
    let says : run_items text ≡ map (λ b. Raw b) text = rw u refl in
    rw (e, chars-nil) (sym (run_says bs ∙ (λ i. run_items (sym et i) ++ characters_of (undoubled (sym er i)))
    ∙ ap (λ l. l ++ characters_of (undoubled rest)) says))

pub character_goes : (run after raw rest : List ℕ) (c d : ℕ) → chars run ≡ c ∷ chars after → d ≡ c
    → left run raw rest ≡ Code d ∷ left after raw rest
character_goes run after raw rest c d e h =
    ap (λ l. map (λ x. Code x) l ++ map (λ b. Raw b) raw ++ characters_of (undoubled rest))
    (e ∙ ap (λ x. x ∷ chars after) (sym h))

pub raw_goes : (run raw after rest : List ℕ) (b : ℕ) → run ≡ [] → raw ≡ b ∷ after → left run raw rest ≡ Raw b
    ∷ left run after rest
raw_goes run raw after rest b e r = rw (e, r, chars-nil) refl

-- where no run is begun and none stands at the front
pub first_says : (run raw rest after now : List ℕ) (b : ℕ) → run ≡ [] → raw ≡ [] → rest ≡ b ∷ after → Stops is_high rest
    → now ≡ behind b after → left run raw rest ≡ Code b ∷ left run raw now
first_says run raw rest after now b e r f low n =
    none_begun run raw rest e r ∙ ap (λ l. characters_of (undoubled l)) f
    ∙ by (b == 39) refl ∙ ap (λ l. Code b ∷ characters_of (undoubled l)) (sym n)
    ∙ ap (λ l. Code b ∷ l) (sym (none_begun run raw now e r))
  where
    by : (t : Bool) → (b == 39) ≡ t → characters_of (undoubled (b ∷ after)) ≡ Code b
        ∷ characters_of (undoubled (cond t (drop 1 after) after))
    by true h = apostrophe_says b after (grind (arith, nat_tests))
    by false h = byte_says b after h (rw f at low)

empty : (bs : List ℕ) → length bs ≡ 0 → bs ≡ []
empty [] h = refl
empty (b ∷ bs) h = absurd (omega (arith, h))

pub none_left : (run raw rest : List ℕ) → run ≡ [] → raw ≡ [] → length rest ≡ 0 → left run raw rest ≡ []
none_left run raw rest e r f = none_begun run raw rest e r ∙ ap (λ l. characters_of (undoubled l)) (empty rest f)
    ∙ nothing

pub no_utf8 : (bs : List ℕ) → (IsUtf8 bs → ⊥) → is_utf8 bs ≡ false
no_utf8 bs h = by (is_utf8 bs) refl
  where
    by : (t : Bool) → is_utf8 bs ≡ t → t ≡ false
    by true e = absurd (h (IsUtf8-from_is_utf8 bs e))
    by false e = refl

pub stops_behind : (bs rest : List ℕ) → rest ≡ drop (prefix_len is_high bs) bs → Stops is_high rest
stops_behind bs rest e = let r = run_at_prefix is_high bs in subst (Stops is_high) (sym e) r.stops

-- what stands between the first byte and the last
pub content_is : (first last : ℕ) (t content : List ℕ) → t ≡ first ∷ content ++ last ∷ []
    → take (length (drop 1 t) - 1) (drop 1 t) ≡ content
content_is first last t content e =
    let l : length (content ++ last ∷ []) - 1 ≡ length content = omega (arith, length-append content (last ∷ [])) in
    ap (λ x. take (length (drop 1 x) - 1) (drop 1 x)) e ∙ ap (λ n. take n (content ++ last ∷ [])) l
    ∙ take-append_seam content (last ∷ [])
