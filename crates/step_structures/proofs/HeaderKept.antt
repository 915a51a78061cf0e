-- The tokens up to a semicolon are the same whatever stands behind it.
use Rattle.std.proofs.Common.{◌≡◌, ℕ, ◌+◌, ◌≤◌, List, [], ◌∷◌, ◌++◌, length, drop, refl, sym, ap, ◌∙◌, subst, arith, length-drop, length-append, append_assoc}
use Rattle.parsing.specs.Tables.{lookaheads}
use Rattle.step_lexer.specs.declared.token.Mark.TheVariants.{Semicolon}
use Rattle.step_lexer.specs.declared.token.Sort.{Sort}
use Rattle.step_lexer.specs.declared.token.Sort.TheVariants as sorts
use Rattle.step_literals.specs.declared.fault.Flaw.{Flaw}
use Rattle.step_literals.specs.Tokens.{IsNext}
use Rattle.step_lexer.specs.Front.{kind_of, mark_byte, HasValue}
use Rattle.step_lexer.specs.Reading.{Reading, left}
use Rattle.step_lexer.proofs.Closers.{next_kept}
use Rattle.step_lexer.proofs.FrontLemmas.{next_mark}
use Rattle.step_lexer.proofs.Standing.{Stands, stands, stands_before, token_at, takes}
use Rattle.step_structures.specs.Words.{mark, word_of, flawed, LocatedToken, located, Shows, shows_token, shows_fault, shows_end, ShowsAll}
use Rattle.step_structures.specs.Trees.{Item, this, says, named, finish, Meets, MeetAll}

abbrev pub semicolon : List Item
semicolon = this (mark Semicolon) ∷ []

abbrev pub at : List ℕ → ℕ → Reading
at text place = record { text = text; place = place }

-- what the items and a semicolon behind them ask for stands from this place to that one
pub record Stretch (text : List ℕ) (place new : ℕ) (items : List Item) (b : List ℕ) : Type 0 where
  pub s : List LocatedToken
  pub shows : ShowsAll (at text place) s (at text new)
  pub begins : MeetAll (lookaheads s) (items ++ semicolon)
  pub within : new ≤ length text
  pub behind : drop new text ≡ b

-- what stands between two readings, and that it reads the same in another text
pub record Kept (items : List Item) (old new : Reading) : Type 0 where
  pub u : List ℕ
  pub split : left old ≡ u ++ 59 ∷ left new
  pub same_text : new.text ≡ old.text
  pub new_place : new.place ≡ old.place + (length u + 1)
  pub again : (text b : List ℕ) (place next : ℕ) → place ≤ length text → drop place text ≡ u ++ 59 ∷ b
      → next ≡ place + (length u + 1) → Stretch text place next items b

semi_text : (sort : Sort) (t : List ℕ) → HasValue sort t → word_of sort t ≡ mark Semicolon → t ≡ 59 ∷ []
semi_text (sorts.Mark m) t h e = let q : m ≡ Semicolon = cc in sym h ∙ ap (λ n. mark_byte n ∷ []) q
semi_text _ t h e = absurd (cc)

-- only a token meets an item, but for the end
pub no_flaw : (f : Flaw) (i : Item) → Meets (flawed f) i → ⊥
no_flaw f (this w) h = h
no_flaw f (says w) h = h
no_flaw f (named n) h = h
no_flaw f finish h = h

no_rest : (n : ℕ) (l u a : List ℕ) → length l ≤ n → drop n l ≡ u ++ 59 ∷ a → ⊥
no_rest n l u a h e = omega (arith, h, ap length e, length-drop n l, length-append u (59 ∷ a))

-- the last semicolon
last_kept : (x : LocatedToken) (old new next : Reading) → Shows old x next → next ≡ new
    → Meets x.lookahead (this (mark Semicolon)) → Kept [] old new
last_kept x old new next (shows_fault f h e) same m =
    absurd (no_flaw f.flaw (this (mark Semicolon)) (subst (λ y. Meets y.lookahead (this (mark Semicolon))) e m))
last_kept x old new next (shows_end h e) same m = absurd (subst (λ y. Meets y.lookahead (this (mark Semicolon))) e m)
last_kept x old new next (shows_token t h e) same m =
    let st = stands old next t h in
    let w : word_of t.sort t.text.now ≡ mark Semicolon = subst (λ y. Meets y.lookahead (this (mark Semicolon))) e m in
    let semi : t.text.now ≡ 59 ∷ [] = semi_text t.sort t.text.now st.value w in
    record {
      u = st.gap;
      split = st.split ∙ (λ i. st.gap ++ (semi i ++ left (same i)));
      same_text = ap (λ r. r.text) (sym same) ∙ h.new_text;
      new_place = omega (arith, ap (λ r. r.place) same, stands_before old next t h, ap length semi);
      again = λ text b place after within here at_next.
          let own : Stands (drop place text) (sorts.Mark Semicolon) (59 ∷ []) b = record {
            gap = st.gap;
            layout = st.layout;
            split = here;
            next = next_mark 59 b refl;
            value = refl;
          } in
          let k = takes text (drop place text) (59 ∷ []) b place (sorts.Mark Semicolon) within refl own after at_next in
          record {
            s = located (token_at (place + length st.gap) (sorts.Mark Semicolon) (59 ∷ [])) ∷ [];
            shows = (
              at text after,
              shows_token (token_at (place + length st.gap) (sorts.Mark Semicolon) (59 ∷ [])) k.0
                  refl,
              refl,
            );
            begins = (refl, tt);
            within = k.1;
            behind = k.2;
          };
    }

-- one token more
more_kept : (i : Item) (items : List Item) (x : LocatedToken) (old next new : Reading) → Shows old x next
    → Meets x.lookahead i → Kept items next new → Kept (i ∷ items) old new
more_kept i items x old next new (shows_fault f h e) m k =
    absurd (no_flaw f.flaw i (subst (λ y. Meets y.lookahead i) e m))
more_kept i items x old next new (shows_end h e) m k =
    absurd (no_rest next.place next.text k.u (left new) (omega (arith, h.new_place, ap length h.new_text)) k.split)
more_kept i items x old next new (shows_token t h e) m k =
    let st = stands old next t h in
    let u = st.gap ++ (t.text.now ++ k.u) in
    let len : length u ≡ length st.gap + (length t.text.now + length k.u) =
    omega (arith, length-append st.gap (t.text.now ++ k.u), length-append t.text.now k.u) in
    let regroup = λ (b : List ℕ). let g : (st.gap ++ (t.text.now ++ k.u)) ++ 59 ∷ b ≡ st.gap
    ++ (t.text.now ++ (k.u ++ 59 ∷ b)) = simp append_assoc in g in
    record {
      u = u;
      split = st.split ∙ ap (λ l. st.gap ++ (t.text.now ++ l)) k.split ∙ sym (regroup (left new));
      same_text = k.same_text ∙ h.new_text;
      new_place = omega (arith, k.new_place, stands_before old next t h, len);
      again = λ text b place after within here at_next.
          let own : Stands (drop place text) t.sort t.text.now (k.u ++ 59 ∷ b) = record {
            gap = st.gap;
            layout = st.layout;
            split = here ∙ regroup b;
            next = next_kept (kind_of t.sort) t.text.now k.u (left new) b 59 refl
                (subst (IsNext (kind_of t.sort) t.text.now) k.split st.next);
            value = st.value;
          } in
          let middle = place + (length st.gap + length t.text.now) in
          let a = takes text (drop place text) t.text.now (k.u ++ 59 ∷ b) place t.sort within refl own middle refl in
          let r = k.again text b middle after a.1 a.2 (omega (arith, at_next, len)) in
          record {
            s = located (token_at (place + length st.gap) t.sort t.text.now) ∷ r.s;
            shows = (
              at text middle,
              shows_token (token_at (place + length st.gap) t.sort t.text.now) a.0 refl,
              r.shows,
            );
            begins = (subst (λ y. Meets y.lookahead i) e m, r.begins);
            within = r.within;
            behind = r.behind;
          };
    }

-- what stands up to a semicolon reads the same in another text, whatever stands behind
pub kept : (items : List Item) (s : List LocatedToken) (old new : Reading) → ShowsAll old s new
    → MeetAll (lookaheads s) (items ++ semicolon) → Kept items old new
kept [] [] old new h b = absurd b
kept [] (x ∷ []) old new h b = last_kept x old new h.0 h.1 h.2 b.0
kept [] (x ∷ y ∷ s) old new h b = absurd b.1
kept (i ∷ items) [] old new h b = absurd b
kept (i ∷ items) (x ∷ s) old new h b = more_kept i items x old h.0 new h.1 b.0 (kept items s h.0 new h.2 b.1)
