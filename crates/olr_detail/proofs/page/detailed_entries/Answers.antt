use Rattle.olr_report.proofs.Common.{entry_of, ◌≡◌, ◌∙◌, List, [], ◌∷◌, ◌++◌, length, map, sym, ap, subst, arith, length_push, map_push, All-push}
use Rattle.std.proofs.lemmas.Slice.Zip.{zip_turn, zip_end}
use Rattle.std.specs.Prelude.{All}
use Rattle.olr_detail.specs.MatchingDetail.{Detailed, IsDetailed, entries_of}
use Rattle.olr_detail.specs.Page.{detailed_of}
use Rattle.olr_detail.specs.declared.page.DetailedEntry.{DetailedEntry}
use Rattle.olr_detail.proofs.Pages.{all_entries, with_entry}
use Rattle.olr_detail.proofs.page.detailed_entries.Goals as goal

-- with one more, each is so
one_more : (P : Detailed → Type 0) (all new : List DetailedEntry) (one : DetailedEntry)
    → All P (map detailed_of all) → P (detailed_of one) → new ≡ all ++ one ∷ []
    → All P (map detailed_of new)
one_more P all new one each is grown =
    subst (All P) (sym (ap (map detailed_of) grown ∙ map_push detailed_of all one))
    (All-push P (map detailed_of all) (detailed_of one) each is)

pub loop-key-preserved : goal.loop-key-preserved
loop-key-preserved c =
    let keys = c.args.page.now.keys.items in
    let all = c.loop-key.all.items in
    let turn = zip_turn keys c.args.matched.now c.loop-key.yielded c.into_iter-key-iterator.result
    c.loop-key.key-iterator c.next.new.self c.next.result
    (cc) (cc) c.loop-key.yielded_by (c.in-Some.key, c.in-Some.matched) c.in-Some.is
    c.next.ensures.steps in
    let one = c.in_ok-one.one in
    let done = c.in_ok-one.ensures in (
      with_entry c.args.on.now.reference.now keys c.args.matched.now (entries_of (map detailed_of all))
          (length c.loop-key.yielded) (entries_of (map detailed_of c.push.new.self.items)) (entry_of one.entry) _
          turn.0 turn.1
          (length_push c.loop-key.yielded (c.in-Some.key, c.in-Some.matched))
          (done.key_is ∙ turn.2 (entry_of one.entry).key) (done.matched_is
          ∙ turn.3 (entry_of one.entry).matched) done.is_entry
          (ap (λ (l : List DetailedEntry). entries_of (map detailed_of l)) c.in_ok-push.ensures.items
          ∙ ap entries_of (map_push detailed_of all one)
          ∙ map_push (λ (d : Detailed). d.entry) (map detailed_of all) (detailed_of one))
          c.loop-key.invariant.0,
      one_more (IsDetailed c.args.on.now.tolerances c.args.on.now.reference.now
          c.args.on.now.map.now) all c.push.new.self.items one c.loop-key.invariant.1
          done.is_detailed c.in_ok-push.ensures.items,
    )

pub returns : goal.returns
returns c =
    let keys = c.args.page.now.keys.items in
    let matched = c.args.matched.now in
    let all = c.loop-key.all.items in
    let ended = zip_end keys matched c.loop-key.yielded c.into_iter-key-iterator.result
    c.loop-key.key-iterator c.next.new.self c.next.result
    (cc) (cc) c.loop-key.yielded_by c.in-None.is c.next.ensures.steps in
    record {
      entries = all_entries c.args.on.now.reference.now keys matched
          (entries_of (map detailed_of all)) (length c.loop-key.yielded)
          (omega (arith, ended, c.requires.one_each)) (omega (arith, ended, c.requires.one_each))
          c.loop-key.invariant.0;
      each = c.loop-key.invariant.1;
    }
