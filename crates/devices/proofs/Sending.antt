-- Sending, piece by piece.
use Rattle.std.proofs.Common.{◌≡◌, ℕ, ◌+◌, ◌-◌, ◌^◌, ◌<◌, ◌≤◌, min, List, [], ◌++◌, length, take, drop, Option, refl, sym, ap, ◌∙◌, append_assoc, arith, length-append}
use Rattle.std.specs.Io.KnownBytes.{Appends}
use Rattle.std.proofs.KnownBytes.{Appends-nil, Appends-trans}
use Rattle.std.proofs.lemmas.List.{take-append-drop, length-take-le}
use Rattle.devices.specs.steps.Prints.{Sends, counted}

counted_grown : (n k m : ℕ) (u v : List ℕ) → n < 2 ^ 64 → m ≡ counted n u → k ≡ length v
    → min (m + k) (2 ^ 64 - 1) ≡ counted n (u ++ v)
counted_grown n k m u v small h e = rw (h, e, length-append) (omega arith)

counted_twice : (n : ℕ) (u v : List ℕ) → counted (counted n u) v ≡ counted n (u ++ v)
counted_twice n u v = rw (length-append) (omega arith)

pub sends_nothing : (a : Option (List ℕ)) (n : ℕ) (text : List ℕ) → Sends a a [] n n text text
sends_nothing a n text = record { sent = []; whole = refl; told = Appends-nil a; count = omega arith }

-- what is to be sent waits
pub sends_kept : (a : Option (List ℕ)) (w : List ℕ) (n : ℕ) (text : List ℕ) → Sends a a w n n text (w ++ text)
sends_kept a w n text = record { sent = []; whole = refl; told = Appends-nil a; count = omega arith }

-- one more piece
pub sends_more : {a b c : Option (List ℕ)} {w : List ℕ} {n m m' k : ℕ} {text left left' : List ℕ} → n < 2 ^ 64
    → Sends a b w n m text left → k ≤ length left → Appends b c (take k left) → m' ≡ min (m + k) (2 ^ 64 - 1)
    → left' ≡ drop k left → Sends a c w n m' text left'
sends_more {a} {b} {c} {w} {n} {m} {m'} {k} {text} {left} {left'} small s within told count rest = record {
  sent = s.sent ++ take k left;
  whole = s.whole ∙ ap (λ l. s.sent ++ l) (sym (take-append-drop k left))
      ∙ sym (append_assoc s.sent (take k left) (drop k left)) ∙ ap (λ l. (s.sent ++ take k left) ++ l) (sym rest);
  told = Appends-trans a b c s.sent (take k left) s.told told;
  count = count ∙ counted_grown n k m s.sent (take k left) small s.count (sym (length-take-le k left within));
}

-- a text, and then another
pub sends_join : {a b c : Option (List ℕ)} {w w' : List ℕ} {n n' m : ℕ} {t u left : List ℕ} → Sends a b w n n' t w'
    → Sends b c w' n' m u left → Sends a c w n m (t ++ u) left
sends_join {a} {b} {c} {w} {w'} {n} {n'} {m} {t} {u} {left} s r = record {
  sent = s.sent ++ r.sent;
  whole = sym (append_assoc w t u) ∙ ap (λ l. l ++ u) s.whole ∙ append_assoc s.sent w' u ∙ ap (λ l. s.sent ++ l) r.whole
      ∙ sym (append_assoc s.sent r.sent left);
  told = Appends-trans a b c s.sent r.sent s.told r.told;
  count = r.count ∙ ap (λ i. counted i r.sent) s.count ∙ counted_twice n s.sent r.sent;
}

-- of a text and another a front was sent where a front of the first was
pub sends_cut : {a b : Option (List ℕ)} {w : List ℕ} {n m : ℕ} {t left : List ℕ} (u : List ℕ) → Sends a b w n m t left
    → Sends a b w n m (t ++ u) (left ++ u)
sends_cut {a} {b} {w} {n} {m} {t} {left} u s = record {
  sent = s.sent;
  whole = sym (append_assoc w t u) ∙ ap (λ l. l ++ u) s.whole ∙ append_assoc s.sent left u;
  told = s.told;
  count = s.count;
}
