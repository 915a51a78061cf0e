-- Embedded remarks: where one ends, and that it is one.
use Rattle.std.proofs.Common.{◌≡◌, ℕ, ◌+◌, ◌-◌, ◌≤◌, ◌<◌, true, false, List, [], ◌∷◌, ◌++◌, length, get_or, take, drop, refl, sym, ap, ◌∙◌, arith, append_assoc, length-append, take-append-drop, codes, nat_eq}
use Rattle.std.specs.Cmp.Lexicographic.{pointwise, bytes_decides}
use Rattle.std.proofs.lemmas.Bool.{false≢true}
use Rattle.step_literals.specs.Strings.{begins_with}
use Rattle.step_literals.proofs.Runs.{front_back}
use Rattle.step_literals.proofs.CleanLemmas.{begins_no}
use Rattle.express_lexer.specs.Layout.{Content, closing, byte, remark, written, turns, IsContent, IsRemark}

head_of : (c : Content) → (x : ℕ) × (xs : List ℕ) × (written c ≡ x ∷ xs)
head_of closing = (42, 41 ∷ [], refl)
head_of (byte b more) = (b, written more, refl)
head_of (remark inner more) = (40, 42 ∷ (written inner ++ written more), refl)

-- two bytes tell whether a remark begins or ends
turns_front : (b : ℕ) (c : Content) (tail : List ℕ) → turns (b ∷ (written c ++ tail)) ≡ turns (b ∷ written c)
turns_front b c tail = let h = head_of c in rw h.2 refl

-- a remark's byte begins neither in the text
byte_turns : (b : ℕ) (c : Content) (tail text : List ℕ) → turns (b ∷ written c) ≡ false → text ≡ b ∷ (written c ++ tail)
    → turns text ≡ false
byte_turns b c tail text h e = ap turns e ∙ turns_front b c tail ∙ h

-- the contents, one after another
abbrev all_written : List Content → List ℕ
all_written [] = []
all_written (c ∷ cs) = written c ++ all_written cs

abbrev AreContents : List Content → Type 0
AreContents [] = Unit {0}
AreContents (c ∷ cs) = IsContent c × AreContents cs

-- what is left closes so many open remarks, and after is what follows the last
pub record Closes (count : ℕ) (rest after : List ℕ) : Type 0 where
  pub contents : List Content
  pub are : AreContents contents
  pub counted : length contents ≡ count
  pub split : rest ≡ all_written contents ++ after

-- a remark stands at the front, and after is what follows it
pub record BeginsRemark (bytes after : List ℕ) : Type 0 where
  pub text : List ℕ
  pub is : IsRemark text
  pub split : bytes ≡ text ++ after

behind : (c : Content) (cs : List Content) (after : List ℕ) → (written c ++ all_written cs) ++ after ≡ written c
    ++ (all_written cs ++ after)
behind c cs after = append_assoc (written c) (all_written cs) after

open_on_of : (cs : List Content) (n : ℕ) (r after : List ℕ) → 0 < n → AreContents cs → length cs ≡ n → 40 ∷ 42
    ∷ r ≡ all_written cs ++ after → Closes (n + 1) r after
open_on_of [] n r after some are len e = absurd (omega (arith, len, some))
open_on_of (closing ∷ cs) n r after some are len e = absurd (omega (arith, ap (λ l. get_or l 0 0) e))
open_on_of (byte b more ∷ cs) n r after some are len e =
    let split : 40 ∷ 42 ∷ r ≡ b ∷ (written more ++ (all_written cs ++ after)) = e
    ∙ ap (λ l. b ∷ l) (behind more cs after) in
    absurd (false≢true (sym (byte_turns b more (all_written cs ++ after) (40 ∷ 42 ∷ r) are.0.0 split)))
open_on_of (remark inner more ∷ cs) n r after some are len e = record {
  contents = inner ∷ more ∷ cs;
  are = (are.0.0, (are.0.1, are.1));
  counted = omega (arith, len);
  split = (let q : 40 ∷ 42 ∷ r ≡ 40 ∷ 42 ∷ ((written inner ++ written more ++ all_written cs) ++ after) = e in
      let t : r ≡ (written inner ++ written more ++ all_written cs) ++ after = cc in t
      ∙ ap (λ l. l ++ after) (append_assoc (written inner) (written more) (all_written cs)));
}

open_on : (n : ℕ) (r after : List ℕ) → 0 < n → Closes n (40 ∷ 42 ∷ r) after → Closes (n + 1) r after
open_on n r after some h = open_on_of h.contents n r after some h.are h.counted h.split

open_back_of : (cs : List Content) (n : ℕ) (r after : List ℕ) → 0 < n → AreContents cs → length cs ≡ n + 1
    → r ≡ all_written cs ++ after → Closes n (40 ∷ 42 ∷ r) after
open_back_of [] n r after some are len e = absurd (omega (arith, len, some))
open_back_of (inner ∷ []) n r after some are len e = absurd (omega (arith, len, some))
open_back_of (inner ∷ more ∷ cs) n r after some are len e = record {
  contents = remark inner more ∷ cs;
  are = ((are.0, are.1.0), are.1.1);
  counted = omega (arith, len);
  split = ap (λ l. 40 ∷ 42 ∷ l) (e ∙ ap (λ l. l ++ after)
      (sym (append_assoc (written inner) (written more) (all_written cs))));
}

close_on_of : (cs : List Content) (n : ℕ) (r after : List ℕ) → 0 < n → AreContents cs → length cs ≡ n → 42 ∷ 41
    ∷ r ≡ all_written cs ++ after → Closes (n - 1) r after
close_on_of [] n r after some are len e = absurd (omega (arith, len, some))
close_on_of (closing ∷ cs) n r after some are len e = record {
  contents = cs;
  are = are.1;
  counted = omega (arith, len);
  split = (let q : 42 ∷ 41 ∷ r ≡ 42 ∷ 41 ∷ (all_written cs ++ after) = e in cc);
}
close_on_of (byte b more ∷ cs) n r after some are len e =
    let split : 42 ∷ 41 ∷ r ≡ b ∷ (written more ++ (all_written cs ++ after)) = e
    ∙ ap (λ l. b ∷ l) (behind more cs after) in
    absurd (false≢true (sym (byte_turns b more (all_written cs ++ after) (42 ∷ 41 ∷ r) are.0.0 split)))
close_on_of (remark inner more ∷ cs) n r after some are len e = absurd (omega (arith, ap (λ l. get_or l 0 0) e))

byte_on_of : (cs : List Content) (n b : ℕ) (r after : List ℕ) → 0 < n → turns (b ∷ r) ≡ false → AreContents cs
    → length cs ≡ n → b ∷ r ≡ all_written cs ++ after → Closes n r after
byte_on_of [] n b r after some plain are len e = absurd (omega (arith, len, some))
byte_on_of (closing ∷ cs) n b r after some plain are len e = absurd (false≢true (sym plain ∙ ap turns e))
byte_on_of (byte c more ∷ cs) n b r after some plain are len e = record {
  contents = more ∷ cs;
  are = (are.0.1, are.1);
  counted = len;
  split = (let q : b ∷ r ≡ c ∷ ((written more ++ all_written cs) ++ after) = e in cc);
}
byte_on_of (remark inner more ∷ cs) n b r after some plain are len e = absurd (false≢true (sym plain ∙ ap turns e))

byte_back_of : (cs : List Content) (n b : ℕ) (r after : List ℕ) → 0 < n → turns (b ∷ r) ≡ false → AreContents cs
    → length cs ≡ n → r ≡ all_written cs ++ after → Closes n (b ∷ r) after
byte_back_of [] n b r after some plain are len e = absurd (omega (arith, len, some))
byte_back_of (more ∷ cs) n b r after some plain are len e =
    let tail = all_written cs ++ after in
    let split : b ∷ r ≡ b ∷ (written more ++ tail) = ap (λ l. b ∷ l) (e ∙ behind more cs after) in
    record {
      contents = byte b more ∷ cs;
      are = (
        (sym (turns_front b more tail) ∙ ap turns (sym split) ∙ plain, are.0),
        are.1,
      );
      counted = len;
      split = ap (λ l. b ∷ l) e;
    }

none_left : (cs : List Content) (n : ℕ) (after : List ℕ) → 0 < n → length cs ≡ n → [] ≡ all_written cs ++ after → ⊥
none_left [] n after some len e = omega (arith, len, some)
none_left (c ∷ cs) n after some len e =
    let h = head_of c in
    omega (
      arith,
      ap length e,
      ap length h.2,
      length-append (written c ++ all_written cs) after,
      length-append (written c) (all_written cs),
    )

-- The remark that the bytes begin with ends where so many open remarks are closed by the rest.
pub record Counts (bytes : List ℕ) (count : ℕ) (rest : List ℕ) : Type 0 where
  pub back : (after : List ℕ) → Closes count rest after → BeginsRemark bytes after
  pub on : (after : List ℕ) → BeginsRemark bytes after → Closes count rest after

module _ (bytes : List ℕ) where
  start_on : (r after : List ℕ) → bytes ≡ 40 ∷ 42 ∷ r → BeginsRemark bytes after → Closes 1 r after
  start_on r after e h = record {
    contents = h.is.0 ∷ [];
    are = (h.is.1, tt);
    counted = refl;
    split = (let q : 40 ∷ 42 ∷ r ≡ 40 ∷ 42 ∷ (written h.is.0 ++ after) = sym e ∙ h.split ∙ ap (λ l. l ++ after) h.is.2
        in let t : r ≡ written h.is.0 ++ after = cc in t ∙ sym (append_assoc (written h.is.0) [] after));
  }

  start_back_of : (cs : List Content) (r after : List ℕ) → bytes ≡ 40 ∷ 42 ∷ r → AreContents cs → length cs ≡ 1
      → r ≡ all_written cs ++ after → BeginsRemark bytes after
  start_back_of [] r after e are len split = absurd (omega (arith, len))
  start_back_of (c ∷ []) r after e are len split = record {
    text = 40 ∷ 42 ∷ written c;
    is = (c, are.0, refl);
    split = e ∙ ap (λ l. 40 ∷ 42 ∷ l) (split ∙ append_assoc (written c) [] after);
  }
  start_back_of (c ∷ d ∷ cs) r after e are len split = absurd (omega (arith, len))

  pub counts_start : (r : List ℕ) → bytes ≡ 40 ∷ 42 ∷ r → Counts bytes 1 r
  counts_start r e = record {
    back = λ after h. start_back_of h.contents r after e h.are h.counted h.split;
    on = λ after h. start_on r after e h;
  }

  module _ (n : ℕ) (some : 0 < n) (r : List ℕ) where
    pub counts_open : Counts bytes n (40 ∷ 42 ∷ r) → Counts bytes (n + 1) r
    counts_open c = record {
      back = λ after h. c.back after (open_back_of h.contents n r after some h.are h.counted h.split);
      on = λ after h. open_on n r after some (c.on after h);
    }

    close_on : (after : List ℕ) → Closes n (42 ∷ 41 ∷ r) after → Closes (n - 1) r after
    close_on after h = close_on_of h.contents n r after some h.are h.counted h.split

    close_back : (after : List ℕ) → Closes (n - 1) r after → Closes n (42 ∷ 41 ∷ r) after
    close_back after h = record {
      contents = closing ∷ h.contents;
      are = (tt, h.are);
      counted = omega (arith, h.counted, some);
      split = ap (λ l. 42 ∷ 41 ∷ l) h.split;
    }

    pub counts_close : Counts bytes n (42 ∷ 41 ∷ r) → Counts bytes (n - 1) r
    counts_close c = record {
      back = λ after h. c.back after (close_back after h);
      on = λ after h. close_on after (c.on after h);
    }

    byte_on : (b : ℕ) (after : List ℕ) → turns (b ∷ r) ≡ false → Closes n (b ∷ r) after → Closes n r after
    byte_on b after plain h = byte_on_of h.contents n b r after some plain h.are h.counted h.split

    pub counts_byte : (b : ℕ) → turns (b ∷ r) ≡ false → Counts bytes n (b ∷ r) → Counts bytes n r
    counts_byte b plain c = record {
      back = λ after h. c.back after (byte_back_of h.contents n b r after some plain h.are h.counted h.split);
      on = λ after h. byte_on b after plain (c.on after h);
    }

  -- nothing is left to close a remark that is open
  pub not_closed : (n : ℕ) → 0 < n → Counts bytes n [] → (t after : List ℕ) → bytes ≡ t ++ after → IsRemark t → ⊥
  not_closed n some c t after e is =
      let h = c.on after (record {
        text = t;
        is = is;
        split = e;
      }) in none_left h.contents n after some h.counted h.split

  -- the remark that the code finds
  pub remark_at : (n : ℕ) (rest : List ℕ) → n ≡ length bytes - length rest → Counts bytes 0 rest → (2 ≤ n)
      × (n ≤ length bytes) × IsRemark (take n bytes)
  remark_at n rest len c =
      let b = c.back rest (record { contents = []; are = tt; counted = refl; split = refl }) in
      let sum : n ≡ length b.text = omega (arith, len, ap length b.split, length-append b.text rest) in
      let cut = front_back bytes b.text rest n b.split sum in
      (omega (arith, sum, ap length b.is.2), cut.0, rw cut.1 b.is)

-- what is left behind a text that is stripped
pub stripped : (text l after : List ℕ) → pointwise nat_eq (take (length text) l) text ≡ true
    → after ≡ drop (length text) l → l ≡ text ++ after
stripped text l after h e = sym (take-append-drop (length text) l)
    ∙ (λ i. (bytes_decides (take (length text) l) text).0 h i ++ sym e i)

pub not_stripped : (text l : List ℕ) → pointwise nat_eq (take (length text) l) text ≡ false → begins_with text l ≡ false
not_stripped text l h = begins_no text l
    (λ rest e. false≢true (sym h ∙ (bytes_decides (take (length text) l) text).1
    (front_back l text rest (length text) e refl).1))

pub empty_of : (l : List ℕ) → length l ≡ 0 → l ≡ []
empty_of [] h = refl
empty_of (x ∷ xs) h = absurd (omega (arith, h))

pub no_turn : (l : List ℕ) → pointwise nat_eq (take 2 l) (codes "(*") ≡ false → pointwise nat_eq (take 2 l)
    (codes "*)") ≡ false → turns l ≡ false
no_turn l h g = rw (not_stripped (codes "(*") l h, not_stripped (codes "*)") l g) refl

content_once : (c d : Content) (r s : List ℕ) → IsContent c → IsContent d → written c ++ r ≡ written d ++ s
    → (written c ≡ written d) × (r ≡ s)
content_once closing closing r s hc hd e = (refl, (let q : 42 ∷ 41 ∷ r ≡ 42 ∷ 41 ∷ s = e in cc))
content_once closing (byte b more) r s hc hd e = absurd (false≢true (sym (byte_turns b more s (42 ∷ 41 ∷ r) hd.0 e)))
content_once closing (remark inner more) r s hc hd e = absurd (omega (arith, ap (λ l. get_or l 0 0) e))
content_once (byte b more) closing r s hc hd e =
    absurd (false≢true (sym (byte_turns b more r (42 ∷ 41 ∷ s) hc.0 (sym e))))
content_once (byte b more) (byte c other) r s hc hd e =
    let q : b ∷ (written more ++ r) ≡ c ∷ (written other ++ s) = e in
    let t : written more ++ r ≡ written other ++ s = cc in
    let u : b ≡ c = cc in
    let h = content_once more other r s hc.1 hd.1 t in
    ((λ i. u i ∷ h.0 i), h.1)
content_once (byte b more) (remark inner other) r s hc hd e =
    absurd (false≢true (sym (byte_turns b more r (40 ∷ 42 ∷ ((written inner ++ written other) ++ s)) hc.0 (sym e))))
content_once (remark inner more) closing r s hc hd e = absurd (omega (arith, ap (λ l. get_or l 0 0) e))
content_once (remark inner more) (byte b other) r s hc hd e =
    absurd (false≢true (sym (byte_turns b other s (40 ∷ 42 ∷ ((written inner ++ written more) ++ r)) hd.0 e)))
content_once (remark inner more) (remark core other) r s hc hd e =
    let q : 40 ∷ 42 ∷ ((written inner ++ written more) ++ r) ≡ 40 ∷ 42 ∷ ((written core ++ written other) ++ s) = e in
    let t : (written inner ++ written more) ++ r ≡ (written core ++ written other) ++ s = cc in
    let u : written inner ++ (written more ++ r) ≡ written core ++ (written other ++ s) =
    sym (append_assoc (written inner) (written more) r) ∙ t ∙ append_assoc (written core) (written other) s in
    let h = content_once inner core (written more ++ r) (written other ++ s) hc.0 hd.0 u in
    let g = content_once more other r s hc.1 hd.1 h.1 in
    ((λ i. 40 ∷ 42 ∷ (h.0 i ++ g.0 i)), g.1)

-- two remarks that begin at one place are one
pub one_remark : (t u r s : List ℕ) → IsRemark t → IsRemark u → t ++ r ≡ u ++ s → t ≡ u
one_remark t u r s h g e =
    let q : 40 ∷ 42 ∷ (written h.0 ++ r) ≡ 40 ∷ 42 ∷ (written g.0 ++ s) = ap (λ l. l ++ r) (sym h.2) ∙ e
    ∙ ap (λ l. l ++ s) g.2 in
    let w : written h.0 ++ r ≡ written g.0 ++ s = cc in
    h.2 ∙ ap (λ l. 40 ∷ 42 ∷ l) (content_once h.0 g.0 r s h.1 g.1 w).0 ∙ sym g.2
