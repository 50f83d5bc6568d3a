-- What a request asks for.
use Rattle.std.specs.Prelude.{ℕ, ⊤, false, List, Option, None, option_map}
use Rattle.std.specs.Borrow.{Bor}
use Rattle.olr_report.specs.declared.route_part.RoutePart.TheVariants.{Route}
use Rattle.olr_request.specs.declared.confidence_file.ConfidenceFile.{ConfidenceFile}
use Rattle.olr_request.specs.declared.request.LegsRequest.{LegsRequest}
use Rattle.olr_request.specs.declared.request.MatchRequest.{MatchRequest}
use Rattle.olr_request.specs.declared.request.Pages.{Pages}
use Rattle.olr_request.specs.declared.request.Pages.TheVariants.{All, One}
use Rattle.olr_request.specs.declared.request.Query.{Query}
use Rattle.olr_request.specs.declared.request.Query.TheVariants.{Reference}
use Rattle.olr_request.specs.declared.request.Request.{Request}
use Rattle.olr_request.specs.declared.request.Request.TheVariants.{Candidates, Match, Places, Show, Why}

-- a map is read for the request
abbrev pub ReadsMap : Request → Type 0
ReadsMap (Show text format) = ⊥
ReadsMap other = ⊤

-- the text of its reference
abbrev pub text_of : Request → List ℕ
text_of (Show text format) = text.now
text_of (Candidates text tolerances extras format) = text.now
text_of (Match asked) = asked.text.now
text_of (Places asked) = asked.text.now
text_of (Why asked) = asked.text.now

-- the bytes of a text, if there is one
abbrev pub bytes_of : Option (Bor (List ℕ)) → Option (List ℕ)
bytes_of text = option_map (λ (bytes : Bor (List ℕ)). bytes.now) text

-- a text of these bytes, wherever it lies
abbrev pub at_bytes : List ℕ → Bor (List ℕ)
at_bytes bytes = record { ref_ptr = (0, 0); now = bytes }

-- the text of the cursor after which the pages begin, or none
abbrev pub cursor_in : Pages → Option (List ℕ)
cursor_in All = None
cursor_in (One cursor) = bytes_of cursor

-- the text of its cursor, or none
abbrev pub cursor_of : Request → Option (List ℕ)
cursor_of (Match asked) = cursor_in asked.pages
cursor_of other = None

-- ---- a confidence

-- the same request, with the file of this confidence where it asks for places
abbrev pub with_confidence : Option ConfidenceFile → Request → Request
with_confidence confidence (Places asked) = Places (record asked { confidence = confidence })
with_confidence confidence other = other

-- the same of all that may be asked
abbrev pub query_with_confidence : Option ConfidenceFile → Query → Query
query_with_confidence confidence (Reference request) =
    Reference (with_confidence confidence request)
query_with_confidence confidence other = other

-- ---- the legs of one matching

-- The request for the one matching behind the cursor of a request for legs, or for the first one. (A
-- cursor is read and refused as that of such a request.)
abbrev pub matching_request : LegsRequest → MatchRequest
matching_request asked = record {
  text = asked.text;
  tolerances = asked.tolerances;
  size = 1;
  pages = One asked.at;
  extras = record { detail = false; shape = false; part = Route };
  format = asked.format;
}
