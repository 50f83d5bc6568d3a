-- What a text asks for, wherever its parts lie in memory.
use Rattle.std.specs.Borrow.{Bor}
use Rattle.std.specs.Prelude.{◌≡◌, ℕ, ⊤, List, Option, None, Some, Result, Ok, Err, option_map}
use Rattle.olr_request.specs.Request.{at_bytes}
use Rattle.olr_request.specs.declared.fault.Fault.{Fault}
use Rattle.olr_request.specs.declared.fault.Fault.TheVariants as fault
use Rattle.olr_request.specs.declared.request.Pages.{Pages}
use Rattle.olr_request.specs.declared.request.Pages.TheVariants as pages
use Rattle.olr_request.specs.declared.request.Query.{Query}
use Rattle.olr_request.specs.declared.request.LegsRequest.{LegsRequest}
use Rattle.olr_request.specs.declared.request.Query.TheVariants.{Legs, Lines, Reference}
use Rattle.olr_request.specs.declared.request.Request.{Request}
use Rattle.olr_request.specs.declared.request.Request.TheVariants.{Candidates, Match, Places, Show, Why}
use Rattle.olr_words.specs.declared.record.RecordFault.{RecordFault}
use Rattle.olr_words.specs.declared.record.RecordFault.TheVariants as record_fault

-- the same pages and the same request, with texts of no place in memory
abbrev pub placeless_pages : Pages → Pages
placeless_pages pages.All = pages.All
placeless_pages (pages.One cursor) = pages.One (option_map (λ text. at_bytes text.now) cursor)

abbrev pub placeless : Request → Request
placeless (Show text format) = Show (at_bytes text.now) format
placeless (Candidates text tolerances extras format) =
    Candidates (at_bytes text.now) tolerances extras format
placeless (Match asked) = Match (record asked {
  text = at_bytes asked.text.now;
  pages = placeless_pages asked.pages;
})
placeless (Places asked) = Places (record asked { text = at_bytes asked.text.now })
placeless (Why asked) = Why (record asked { text = at_bytes asked.text.now })

-- the same cursor, and the same request for legs
abbrev pub placeless_cursor : Option (Bor (List ℕ)) → Option (Bor (List ℕ))
placeless_cursor cursor = option_map (λ text. at_bytes text.now) cursor

abbrev pub placeless_legs : LegsRequest → LegsRequest
placeless_legs asked =
    record asked { text = at_bytes asked.text.now; at = placeless_cursor asked.at }

-- the same of all that may be asked; lines have no text
abbrev pub placeless_query : Query → Query
placeless_query (Reference request) = Reference (placeless request)
placeless_query (Legs asked) = Legs (placeless_legs asked)
placeless_query (Lines asked) = Lines asked

-- What a result states of the words of a text: the request that they ask for, or the fault of a
-- number; or, by `Some None`, that they ask for nothing. It states nothing where memory was
-- refused.
abbrev pub stated : Result Query RecordFault → Option (Option (Result Query Fault))
stated (Ok query) = Some (Some (Ok (placeless_query query)))
stated (Err (record_fault.Words line)) = Some None
stated (Err (record_fault.Fault fault.NoMemory)) = None
stated (Err (record_fault.Fault why)) = Some (Some (Err why))

-- equal, where both state something
abbrev pub AreEqual : {A : Type 0} → Option A → Option A → Type 0
AreEqual None other = ⊤
AreEqual (Some one) None = ⊤
AreEqual (Some one) (Some other) = one ≡ other

abbrev pub StateTheSame : Result Query RecordFault → Result Query RecordFault → Type 0
StateTheSame one other = AreEqual (stated one) (stated other)
