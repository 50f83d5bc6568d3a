-- The entries of the first keys of a page, one more after the other.
use Rattle.olr_report.proofs.Common.{AreEntriesOf, Entry, entry_of, IsEntryOf, KeyValue, Matched, Reference, ◌≡◌, ℕ, ◌+◌, ◌<◌, ◌≤◌, List, [], ◌∷◌, ◌++◌, length, map, take, get_or, sym, ap, ◌∙◌, All-same, All-push, map_push, take_all, take_more}
use Rattle.olr_report.specs.declared.page_entries.Entry.{Entry as Returned}

-- what each entry has, where that of the first ones is the beginning of a list
more_of : {A : Type 0} (part : Entry → A) (all : List A) (list : List Returned) (entry : Returned)
    (count next : ℕ) → count < length all
    → next ≡ count + 1 → part (entry_of entry) ≡ get_or all count (part (entry_of entry))
    → map part (map entry_of list) ≡ take count all
    → map part (map entry_of (list ++ entry ∷ [])) ≡ take next all
more_of part all list entry count next inside is at are =
    let first = part (entry_of entry) in
    ap (map part) (map_push entry_of list entry)
    ∙ map_push part (map entry_of list) (entry_of entry) ∙ ap (λ l. l ++ first ∷ []) are
    ∙ ap (λ a. take count all ++ a ∷ []) at ∙ sym (take_more all count first inside)
    ∙ ap (λ n. take n all) (sym is)

module _ (reference : Reference) (keys : List KeyValue) (matched : List Matched)
    (list : List Returned) (count : ℕ) where
  pub with_entry : (new : List Returned) (entry : Returned) (next : ℕ) → count < length keys
      → count < length matched → next ≡ count + 1 → entry.key.now ≡ get_or keys count entry.key.now
      → entry.matched.now ≡ get_or matched count entry.matched.now
      → IsEntryOf reference (entry_of entry) → new ≡ list ++ entry ∷ []
      → AreEntriesOf reference (take count keys) (take count matched) (map entry_of list)
      → AreEntriesOf reference (take next keys) (take next matched) (map entry_of new)
  with_entry new entry next inside within is key_at one_at of grown are = record {
    keys_are = cc (more_of (λ (e : Entry). e.key) keys list entry count next inside is key_at
        are.keys_are);
    matched_are =
        cc (more_of (λ (e : Entry). e.matched) matched list entry count next within is one_at
        are.matched_are);
    each = All-same (IsEntryOf reference) _ _ (cc (map_push entry_of list entry))
        (All-push (IsEntryOf reference) (map entry_of list) (entry_of entry) are.each of);
  }

  pub all_entries : length keys ≤ count → length matched ≤ count
      → AreEntriesOf reference (take count keys) (take count matched) (map entry_of list)
      → AreEntriesOf reference keys matched (map entry_of list)
  all_entries inside within are = record {
    keys_are = cc (take_all count keys inside);
    matched_are = cc (take_all count matched within);
    each = are.each;
  }
