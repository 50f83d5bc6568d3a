use Rattle.olr_places.proofs.Common.{gap_of, IsOpenerAt, entry_of, Entry, PlaceLimits, Looking, Opener, ◌≡◌, ◌<◌, ◌≤◌, List, ◌∷◌, [], ◌++◌, false, length, ap, ◌∙◌, arith, Some, ◌==◌, eq-eqb, le-leb, le-ltb, lt-ltb, ne_eqb, length-map, All-push, Stands, gap_behind}
use Rattle.olr_places.proofs.LookSteps.{beyond_ends, full_ends, gap_at_first, more_kept, stands_with_member, stands_with_opener}
use Rattle.olr_places.proofs.looking.Looking.look_at.Goals as goal

module _ {limits : PlaceLimits} {before : List Entry} {old : Looking}
    (count : old.looked < limits.look) (stands : Stands limits before old) where
  more_left : (length before == limits.look) ≡ false
  more_left = ne_eqb (length before) limits.look (λ same. omega arith)

  few : length before < 4294967295
  few = omega arith

  gap_is : (opener : Opener) → gap_behind old.openers.items opener.key ≡ gap_of before opener.key
  gap_is opener = gap_at_first limits before old.openers.items opener.key stands.openers

pub returns-in-Some-clause-looks : goal.returns-in-Some-clause-looks
returns-in-Some-clause-looks c = λ before stands.
    let found = rw (c.deref.ensures.value, stands.openers) at c.in-Some.ensures.place in
    stands_with_member stands (entry_of c.args.opener) (more_left c.requires.count stands)
    found.0 (few c.requires.count stands) c.count.new.self c.in-Some.index
    found.1 (ap (λ v. v.items) c.count.ensures.openers ∙ c.add_member.ensures) c.count.ensures.count
    c.count.ensures.last

pub returns-in-Some-clause-openers : goal.returns-in-Some-clause-openers
returns-in-Some-clause-openers c = λ road layers all here.
    rw (c.count.ensures.openers, c.add_member.ensures)
    (more_kept (IsOpenerAt road layers)
    (λ opener members is. record { is_entry = is.is_entry; on_map = is.on_map }) c.in-Some.index
    c.args.self.now.openers.items all)

pub returns-then-gap-limits-clause-looks : goal.returns-then-gap-limits-clause-looks
returns-then-gap-limits-clause-looks c = λ before stands.
    let gap = c.gap_behind-gap.ensures
    ∙ ap (λ (l : List Opener). gap_behind l c.args.opener.key) c.deref-2.ensures.value
    ∙ gap_is c.requires.count stands c.args.opener in
    let far : c.args.limits.now.within < gap_of before c.args.opener.key = omega arith in
    rw gap
    (beyond_ends stands (entry_of c.args.opener) (more_left c.requires.count stands)
    (rw (c.deref.ensures.value, stands.openers) at c.in_default.ensures.place) far
    c.count-then-gap-limits.new.self
    (lt-ltb c.args.limits.now.within (gap_of before c.args.opener.key) far)
    c.count-then-gap-limits.ensures.openers c.count-then-gap-limits.ensures.count
    c.count-then-gap-limits.ensures.last)

pub returns-then-len-limits-clause-looks : goal.returns-then-len-limits-clause-looks
returns-then-len-limits-clause-looks c = λ before stands.
    let gap = c.gap_behind-gap.ensures
    ∙ ap (λ (l : List Opener). gap_behind l c.args.opener.key) c.deref-2.ensures.value
    ∙ gap_is c.requires.count stands c.args.opener in
    full_ends stands (entry_of c.args.opener) (more_left c.requires.count stands)
    (rw (c.deref.ensures.value, stands.openers) at c.in_default.ensures.place)
    (le-ltb c.args.limits.now.within (gap_of before c.args.opener.key) (omega arith))
    (eq-eqb _ c.args.limits.now.most
    (omega (
      arith,
      length-map c.args.self.now.openers.items entry_of,
      ap (λ (l : List Entry). length l) stands.openers,
    )))

pub returns-clause-looks : goal.returns-clause-looks
returns-clause-looks c = λ before stands.
    let gap = c.gap_behind-gap.ensures
    ∙ ap (λ (l : List Opener). gap_behind l c.args.opener.key) c.deref-2.ensures.value
    ∙ gap_is c.requires.count stands c.args.opener in
    let near : gap_of before c.args.opener.key ≤ c.args.limits.now.within = omega arith in
    stands_with_opener stands (entry_of c.args.opener) (more_left c.requires.count stands)
    (rw (c.deref.ensures.value, stands.openers) at c.in_default.ensures.place) c.with_gap.result
    (ap entry_of c.with_gap.ensures) (ap (λ (o : Opener). o.gap) c.with_gap.ensures ∙ gap)
    (ap (λ (o : Opener). o.members) c.with_gap.ensures ∙ c.requires.itself)
    (record {
      openers = c.push.new.self;
      looked = c.count-2.new.self.looked;
      last = c.count-2.new.self.last;
    }) (le-ltb c.args.limits.now.within (gap_of before c.args.opener.key) near)
    (le-leb (gap_of before c.args.opener.key) c.args.limits.now.within near)
    (ne_eqb _ c.args.limits.now.most
    (λ full. c.if-len-limits.false (omega (
      arith,
      length-map c.args.self.now.openers.items entry_of,
      ap (λ (l : List Entry). length l) stands.openers,
    ))))
    (c.in_ok-push.ensures.items ∙ ap (λ v. v.items ++ c.with_gap.result ∷ [])
    c.count-2.ensures.openers) c.count-2.ensures.count
    (c.count-2.ensures.last ∙ ap (λ k. Some k) c.in_ok-copy_of.ensures)

pub returns-clause-openers : goal.returns-clause-openers
returns-clause-openers c = λ road layers all here.
    rw (c.in_ok-push.ensures.items, c.count-2.ensures.openers, c.with_gap.ensures)
    (All-push (IsOpenerAt road layers) c.args.self.now.openers.items _ all
    (record { is_entry = here.is_entry; on_map = here.on_map }))
