-- A record says one thing.
use Rattle.olr_messages.proofs.Common.{◌≡◌, ◌≢◌, ℕ, ◌<◌, List, [], length, refl, sym, ap, ◌∙◌, arith, Option, Some, None, All, IsUtf8, IsMessage, IsSplitAtTab, Message, Empty, Long, NotText, Text}
use Rattle.std.proofs.lemmas.Str.{IsUtf8-nil}
use Rattle.olr_records.proofs.Cuts.{Avoids, one_way, not_avoided}

avoids_tab : (bytes : List ℕ) → All (λ byte. byte ≢ 9) bytes → Avoids 9 bytes
avoids_tab bytes free k inside = free k 0 inside

same_text : (bytes : List ℕ) (k l : Option (List ℕ)) (s t : List ℕ) → IsSplitAtTab bytes k s
    → IsSplitAtTab bytes l t → Text k s ≡ Text l t
same_text bytes None None s t a b = ap (λ (x : List ℕ). Text None x) (a.0 ∙ sym b.0)
same_text bytes None (Some l) s t a b = absurd (not_avoided 9 _ l t b.0 (avoids_tab _ a.1))
same_text bytes (Some k) None s t a b = absurd (not_avoided 9 _ k s a.0 (avoids_tab _ b.1))
same_text bytes (Some k) (Some l) s t a b = grind (arith, one_way, avoids_tab)

not_long : {bytes : List ℕ} → bytes ≡ [] → 65536 < length bytes → ⊥
not_long none long = omega (arith, ap length none)

not_utf8_if_empty : {bytes : List ℕ} → bytes ≡ [] → ¬ (IsUtf8 bytes) → ⊥
not_utf8_if_empty none not_utf8 = not_utf8 (rw none IsUtf8-nil)

-- a record has one message
pub message_once : (bytes : List ℕ) (m n : Message) → IsMessage bytes m → IsMessage bytes n → m ≡ n
message_once bytes Empty Empty a b = refl
message_once bytes Empty Long a b = absurd (not_long a b)
message_once bytes Empty NotText a b = absurd (not_utf8_if_empty a b.1)
message_once bytes Empty (Text l t) a b = absurd (b.0.not_empty a)
message_once bytes Long Empty a b = absurd (not_long b a)
message_once bytes Long Long a b = refl
message_once bytes Long NotText a b = absurd (omega arith)
message_once bytes Long (Text l t) a b = absurd (omega arith)
message_once bytes NotText Empty a b = absurd (not_utf8_if_empty b a.1)
message_once bytes NotText Long a b = absurd (omega arith)
message_once bytes NotText NotText a b = refl
message_once bytes NotText (Text l t) a b = absurd (a.1 b.0.utf8)
message_once bytes (Text k s) Empty a b = absurd (a.0.not_empty b)
message_once bytes (Text k s) Long a b = absurd (omega arith)
message_once bytes (Text k s) NotText a b = absurd (b.1 a.0.utf8)
message_once bytes (Text k s) (Text l t) a b = same_text _ k l s t a.1 b.1
