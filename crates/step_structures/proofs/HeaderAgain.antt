-- The header bytes of an exchange structure read the same before any other bytes.
use Rattle.std.proofs.Common.{◌≡◌, ℕ, ◌+◌, ◌-◌, ◌≤◌, List, [], ◌∷◌, ◌++◌, length, take, drop, refl, sym, ap, ◌∙◌, subst, arith, length-append, append_assoc, Some, None, codes, false, nat_eq}
use Rattle.std.proofs.lemmas.Bool.Decides.{nat_tests}
use Rattle.parsing.specs.Tables.{lookaheads}
use Rattle.step_lexer.specs.declared.token.Token.{Token}
use Rattle.step_literals.specs.Tokens.{IsNext}
use Rattle.step_lexer.specs.Front.{kind_of}
use Rattle.step_lexer.specs.Layout.{NoBlank}
use Rattle.step_lexer.specs.Reading.{Reading, Takes, Reaches, start, start_of, left}
use Rattle.step_literals.proofs.Runs.{front_back}
use Rattle.step_literals.proofs.Longest.{Group, group, group_at, group_of, first_group}
use Rattle.step_lexer.proofs.Closers.{next_kept, no_blank_at_token}
use Rattle.step_lexer.proofs.Determined.{same_place}
use Rattle.step_lexer.proofs.Standing.{Stands, stands, whole, token_at, takes}
use Rattle.step_structures.specs.Words.{begins, word_of, LocatedToken, located, Shows, shows_token, shows_fault, shows_end, ShowsAll}
use Rattle.step_structures.specs.Trees.{Item, this, says, Meets, MeetAll, Record, File, items_of_records, items_of_header}
use Rattle.step_structures.specs.Texts.{Reads, ReadsAs}
use Rattle.step_structures.proofs.HeaderKept.{semicolon, at, Kept, kept}

-- the items of a header between the first and the last
abbrev pub inner_items : List Record → List Item
inner_items ps = (semicolon ++ (says (codes "HEADER") ∷ semicolon) ++ items_of_records ps) ++ says (codes "ENDSEC") ∷ []

header_items : (ps : List Record) → items_of_header ps ≡ this begins ∷ (inner_items ps ++ semicolon)
header_items ps = simp append_assoc

not_239 : (c : ℕ) (g : Group) → group_of c ≡ Some g → nat_eq 239 c ≡ false
not_239 c g h =
    let apart : c ≡ 239 → ⊥ = λ e. (let n : None ≡ Some g = ap group_of (sym e) ∙ h in cc) in
    grind (arith, nat_tests, apart)

-- no byte order mark stands where a token does
no_bom : (l : List ℕ) (g : Group) → group_at l ≡ Some g → start_of l ≡ 0
no_bom [] g h = absurd (cc)
no_bom (c ∷ cs) g h = rw (not_239 c g h) refl

-- how header bytes stand before other bytes
pub record Again (header_bytes : List ℕ) (header : List Record) (b : List ℕ) : Type 0 where
  pub reads : Reads (start (header_bytes ++ b)) (items_of_header header) (at (header_bytes ++ b) (length header_bytes))
  pub begins : Reaches (start (header_bytes ++ b)) 0
  pub header_bytes_are : header_bytes ≡ take (length header_bytes - 0) (drop 0 (header_bytes ++ b))
  pub within : length header_bytes ≤ length (header_bytes ++ b)
  pub behind : drop (length header_bytes) (header_bytes ++ b) ≡ b

module _ (text header_bytes b : List ℕ) (header : List Record) (first : ℕ) (headed next : Reading)
    (reach : Reaches (start text) first) (t : Token) (taken : Takes (start text) t next)
    (k : Kept (inner_items header) next headed) (is_first : word_of t.sort t.text.now ≡ begins)
    (header_bytes_are : header_bytes ≡ take (headed.place - first) (drop first text)) where
  abbrev word : List ℕ
  word = t.text.now

  place_is : t.place ≡ first
  place_is = same_place (start text) t.place first taken.reaches reach

  old_text : drop first text ≡ word ++ (k.u ++ 59 ∷ left headed)
  old_text = ap (λ n. drop n text) (sym place_is) ∙ whole (start text) next t taken ∙ ap (λ l. word ++ l) k.split

  header_text : header_bytes ≡ word ++ (k.u ++ 59 ∷ [])
  header_text =
      let n : headed.place - first ≡ length (word ++ (k.u ++ 59 ∷ [])) = omega (
        arith,
        k.new_place,
        taken.new_place,
        place_is,
        length-append word (k.u ++ 59 ∷ []),
        length-append k.u (59 ∷ []),
      ) in
      let e : drop first text ≡ (word ++ (k.u ++ 59 ∷ [])) ++ left headed = old_text ∙ sym (simp append_assoc) in
      header_bytes_are ∙ (front_back (drop first text) (word ++ (k.u ++ 59 ∷ [])) (left headed) (headed.place - first) e
      n).1

  new_text : header_bytes ++ b ≡ word ++ (k.u ++ 59 ∷ b)
  new_text = ap (λ l. l ++ b) header_text ∙ simp append_assoc

  abbrev own : Stands (header_bytes ++ b) t.sort word (k.u ++ 59 ∷ b)
  own =
      let st = stands (start text) next t taken in
      record {
        gap = [];
        layout = ([], tt, refl);
        split = new_text;
        next = next_kept (kind_of t.sort) word k.u (left headed) b 59 refl (subst (IsNext (kind_of t.sort) word) k.split
            st.next);
        value = st.value;
      }

  unmarked : start_of (header_bytes ++ b) ≡ 0
  unmarked = no_bom (header_bytes ++ b) (group (kind_of t.sort)) (first_group (kind_of t.sort) word (k.u ++ 59 ∷ b)
      (header_bytes ++ b) own.next.allowed (sym new_text))

  from_zero : at (header_bytes ++ b) 0 ≡ start (header_bytes ++ b)
  from_zero = ap (λ n. at (header_bytes ++ b) n) (sym unmarked)

  header_len : length header_bytes ≡ length word + (length k.u + 1)
  header_len = omega (arith, ap length header_text, length-append word (k.u ++ 59 ∷ []), length-append k.u (59 ∷ []))

  again_at : Again header_bytes header b
  again_at =
      let a = takes (header_bytes ++ b) (header_bytes ++ b) word (k.u ++ 59 ∷ b) 0 t.sort (omega arith) refl own
      (length word) (omega arith) in
      let r = k.again (header_bytes ++ b) b (length word) (length header_bytes) a.1 a.2 header_len in
      let cut = front_back (header_bytes ++ b) header_bytes b (length header_bytes - 0) refl (omega arith) in
      let here : Reaches (at (header_bytes ++ b) 0) 0 = record {
        within = omega arith;
        layout = record {
          gap = [];
          layout = ([], tt, refl);
          split = refl;
          whole = subst NoBlank (sym new_text) (no_blank_at_token (kind_of t.sort) word (k.u ++ 59 ∷ b)
              own.next.allowed);
        };
      } in
      let s : List LocatedToken = located (token_at 0 t.sort word) ∷ r.s in
      let shown : ShowsAll (at (header_bytes ++ b) 0) s (at (header_bytes ++ b) (length header_bytes)) =
      (at (header_bytes ++ b) (length word), shows_token (token_at 0 t.sort word) a.0 refl, r.shows) in
      record {
        reads = (
          s,
          subst (λ q. ShowsAll q s (at (header_bytes ++ b) (length header_bytes))) from_zero shown,
          subst (MeetAll (lookaheads s)) (sym (header_items header)) (is_first, r.begins),
        );
        begins = subst (λ q. Reaches q 0) from_zero here;
        header_bytes_are = sym cut.1;
        within = r.within;
        behind = r.behind;
      }

first_again : (text header_bytes b : List ℕ) (header : List Record) (first : ℕ) (headed next : Reading)
    (x : LocatedToken) (s : List LocatedToken) → Reaches (start text) first → Shows (start text) x next
    → Meets x.lookahead (this begins) → ShowsAll next s headed
    → MeetAll (lookaheads s) (inner_items header ++ semicolon)
    → header_bytes ≡ take (headed.place - first) (drop first text) → Again header_bytes header b
first_again text header_bytes b header first headed next x s reach (shows_token t h e) m more rest is =
    again_at text header_bytes b header first headed next reach t h (kept (inner_items header) s next headed more rest)
    (subst (λ y. Meets y.lookahead (this begins)) e m) is
first_again text header_bytes b header first headed next x s reach (shows_fault f h e) m more rest is =
    absurd (subst (λ y. Meets y.lookahead (this begins)) e m)
first_again text header_bytes b header first headed next x s reach (shows_end h e) m more rest is =
    absurd (subst (λ y. Meets y.lookahead (this begins)) e m)

split_again : (text header_bytes b : List ℕ) (header : List Record) (first : ℕ) (headed : Reading)
    (s : List LocatedToken) → Reaches (start text) first → ShowsAll (start text) s headed
    → MeetAll (lookaheads s) (this begins ∷ (inner_items header ++ semicolon))
    → header_bytes ≡ take (headed.place - first)
    (drop first text) → Again header_bytes header b
split_again text header_bytes b header first headed [] reach shown begun is = absurd begun
split_again text header_bytes b header first headed (x ∷ s) reach shown begun is = first_again text header_bytes b
    header first headed shown.0 x s reach shown.1 begun.0 shown.2 begun.1 is

-- the header bytes of what a text reads as read the same before any other bytes
pub header_again : (text header_bytes : List ℕ) (x : File) (b : List ℕ) → ReadsAs text header_bytes x
    → Again header_bytes x.header b
header_again text header_bytes x b h =
    split_again text header_bytes b x.header h.first h.headed h.header.0 h.begins h.header.1
    (subst (MeetAll (lookaheads h.header.0)) (header_items x.header) h.header.2) h.header_bytes_are
