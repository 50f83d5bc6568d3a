-- What a value sends is written as its compact text, and this text reads as the value.
use Rattle.std.proofs.Common.{◌≡◌, ℕ, pos, negsuc, ◌+◌, ◌<◌, ◌≤◌, List, [], ◌∷◌, ◌++◌, length, get_or, drop, map, Some, option_map, option_and_then, codes, false, suc, refl, sym, ap, ◌∙◌, arith, append-nil}
use Rattle.std.proofs.lemmas.List.{drop_more}
use Rattle.json.specs.Json as json
use Rattle.json.specs.Tree as tree
use Rattle.json.specs.Tree.{json_tokens, HasNumbers, ItemsHaveNumbers, MembersHaveNumbers}
use Rattle.json.proofs.Printed.Decimals.{IsNumber-decimal, IsNumber-signed_decimal}
use Rattle.json.proofs.Printed.Tokens.{tokens-print}
use Rattle.json.proofs.Printed.Trees.{value-json_tokens, ArePrintable-json_tokens}
use Rattle.serde.specs.Event.{Log}
use Rattle.serde_json.specs.Data.{unsigned, negative, float, Data, null, boolean, number, string, array, object, Items, no_items, item, Members, no_members, member, put}
use Rattle.serde_json.specs.Events.{items_len, SendsValue, SendsItems as SendsValues, SendsMembers as SendsNamed}
use Rattle.serde_json.specs.Read.{of_json, of_items, of_members, max_depth, read}
use Rattle.serde_json.specs.Sent.{IsTextOf}
use Rattle.serde_json.specs.View.{items_of}
use Rattle.serde_json.specs.Written.{compact_text, has_float, items_have_float, members_have_float, outline, items_outline, members_outline}
use Rattle.serde_json.proofs.FreeTexts.{text_of_value}
use Rattle.serde_json.proofs.Numbers.{number_of-decimal, number_of-negative}
use Rattle.serde_json.proofs.Texts.{print-outline}
use Rattle.olr_text.specs.JsonValues.{IsJsonText, ItemsNestWithin, MembersNestWithin, NestsWithin}
use Rattle.olr_text.specs.Sent.{Sends, SendsItems, SendsMembers, with_members}

-- ---- what is known of a value that was sent

-- The events are those that `serde_json` writes as the value, which is read from its JSON, and has
-- no float.
record IsRead (value : Data) (old new : Log) : Type 0 where
  pub sent : SendsValue value old new
  pub read : of_json (outline value) ≡ Some value
  pub numbers : HasNumbers (outline value)
  pub no_float : has_float value ≡ false

record AreRead (values : Items) (old new : Log) : Type 0 where
  pub sent : SendsValues values old new
  pub read : of_items (items_outline values) ≡ Some values
  pub numbers : ItemsHaveNumbers (items_outline values)
  pub no_float : items_have_float values ≡ false

record MembersAreRead (members : Members) (old new : Log) : Type 0 where
  pub sent : SendsNamed members old new
  pub read : (found : Members)
      → of_members (members_outline members) found ≡ Some (with_members members found)
  pub numbers : MembersHaveNumbers (members_outline members)
  pub no_float : members_have_float members ≡ false

mutual
  is_read : (value : Data) (old new : Log) → Sends value old new → IsRead value old new
  is_read null old new sent = record { sent = sent; read = refl; numbers = tt; no_float = refl }
  is_read (boolean b) old new sent =
      record { sent = sent; read = refl; numbers = tt; no_float = refl }
  is_read (number (unsigned n)) old new sent = record {
    sent = sent.0;
    read = ap (option_map number) (number_of-decimal n sent.1);
    numbers = IsNumber-decimal n sent.1;
    no_float = refl;
  }
  is_read (number (negative (pos n))) old new sent = absurd sent
  is_read (number (negative (negsuc n))) old new sent = record {
    sent = sent.0;
    read = ap (option_map number) (number_of-negative n (omega arith));
    numbers = IsNumber-signed_decimal (negsuc n) (omega arith);
    no_float = refl;
  }
  is_read (number (float x)) old new sent = absurd sent
  is_read (string text) old new sent =
      record { sent = sent; read = refl; numbers = tt; no_float = refl }
  is_read (array values) old new sent = let all = are_read values sent.0 new sent.2 in record {
    sent = (sent.0, sent.1, all.sent);
    read = ap (option_map array) all.read;
    numbers = all.numbers;
    no_float = all.no_float;
  }
  is_read (object members) old new sent =
      let all = members_are_read members sent.0 new sent.2 in record {
        sent = (sent.0, sent.1, all.sent);
        read = ap (option_map object) (all.read no_members ∙ ap Some sent.3);
        numbers = all.numbers;
        no_float = all.no_float;
      }

  are_read : (values : Items) (old new : Log) → SendsItems values old new → AreRead values old new
  are_read no_items old new sent =
      record { sent = sent; read = refl; numbers = tt; no_float = refl }
  are_read (item value values) old new sent =
      let first = is_read value old sent.0 sent.1 in
      let others = are_read values sent.0 new sent.2 in record {
        sent = (sent.0, first.sent, others.sent);
        read = rw (first.read, others.read);
        numbers = (first.numbers, others.numbers);
        no_float = rw first.no_float others.no_float;
      }

  members_are_read : (members : Members) (old new : Log) → SendsMembers members old new
      → MembersAreRead members old new
  members_are_read no_members old new sent =
      record { sent = sent; read = λ found. refl; numbers = tt; no_float = refl }
  members_are_read (member name value members) old new sent =
      let first = is_read value sent.0 sent.1 sent.3 in
      let others = members_are_read members sent.1 new sent.4 in record {
        sent = (sent.0, sent.1, sent.2, first.sent, others.sent);
        read = λ found. rw first.read (others.read (put name value found));
        numbers = (first.numbers, others.numbers);
        no_float = rw first.no_float others.no_float;
      }

-- ---- how deep the JSON of a value nests

mutual
  shallow : (value : Data) (most : ℕ) → NestsWithin most value → tree.depth (outline value) ≤ most
  shallow null most within = omega arith
  shallow (boolean b) most within = omega arith
  shallow (number n) most within = omega arith
  shallow (string text) most within = omega arith
  shallow (array values) most within = omega (arith, within.0, items_shallow values _ within.1)
  shallow (object members) most within =
      omega (arith, within.0, members_shallow members _ within.1)

  items_shallow : (values : Items) (most : ℕ) → ItemsNestWithin most values
      → tree.items_depth (items_outline values) ≤ most
  items_shallow no_items most within = omega arith
  items_shallow (item value values) most within =
      omega (arith, shallow value most within.0, items_shallow values most within.1)

  members_shallow : (members : Members) (most : ℕ) → MembersNestWithin most members
      → tree.members_depth (members_outline members) ≤ most
  members_shallow no_members most within = omega arith
  members_shallow (member name value members) most within =
      omega (arith, shallow value most within.0, members_shallow members most within.1)

-- ---- the text

reads : (value : Data) (log : Log) → IsRead value (Some []) log → NestsWithin max_depth value
    → read (compact_text value) ≡ Some value
reads value log known within =
    let written = json_tokens (outline value) in
    let parsed : json.value max_depth written ≡ Some (outline value, []) =
    ap (json.value max_depth) (sym (append-nil written))
    ∙ value-json_tokens (outline value) max_depth [] (shallow value max_depth within) in
    let found = tokens-print written (ArePrintable-json_tokens (outline value) known.numbers) in
    ap read (sym (print-outline value))
    ∙ ap (λ r. option_and_then of_json (option_and_then (λ p. json.if_last p.0 p.1) r))
    (ap (json.value max_depth) found ∙ parsed)
    ∙ known.read

pub text_of : (value : Data) (log : Log) (text : List ℕ) → Sends value (Some []) log
    → IsTextOf log text → NestsWithin max_depth value → IsJsonText value text
text_of value log text sent is within =
    let known = is_read value (Some []) log sent in record {
      text_is = cc (text_of_value value log text known.sent is known.no_float);
      reads_as = reads value log known within;
    }

-- ---- an array

module _ {A : Type 0} (value : A → Data) where
  pub count : (list : List A) → items_len (items_of (map value list)) ≡ length list
  count [] = refl
  count (a ∷ list) = ap suc (count list)

  -- one value more is sent
  pub one_more : (list : List A) (index : ℕ) (a : A) (old mid end : Log) → index < length list
      → a ≡ get_or list index a → Sends (value a) old mid
      → SendsItems (items_of (map value (drop (index + 1) list))) mid end
      → SendsItems (items_of (map value (drop index list))) old end
  one_more list index a old mid end inside at sent others =
      let dropped : drop index list ≡ a ∷ drop (index + 1) list =
      cc (drop_more list index a inside) in
      rw dropped (mid, sent, others)
