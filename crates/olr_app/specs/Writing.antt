-- What a sink has taken once bytes were handed over to it, by as many calls as it takes.
use Rattle.std.specs.Prelude.{◌≡◌, ℕ, ◌<◌, ◌⊎◌, List, [], ◌++◌, drop, length, Option, Result}
use Rattle.std.specs.Prelude.{Ok, Err}
use Rattle.std.specs.Io.KnownBytes.{Appends}
use Rattle.olr_app.specs.Common.{Failed}
use Rattle.olr_base.specs.Counting.{one_more}

-- The calls that hand bytes over, each of which takes some of them: a call is handed all that those
-- before it left, and the sink and the bytes that are left are then these. No other call was made.
pub data Hands {O : Type 0} (put_gives : O → List ℕ → Result ℕ Failed → O → Type 0) (old : O)
    (bytes : List ℕ) : O → List ℕ → Type 0 where
  no_call : Hands put_gives old bytes old bytes
  one_call : {before after : O} {rest left : List ℕ} (count : ℕ)
      → Hands put_gives old bytes before rest → put_gives before rest (Ok count) after
      → 0 < count → left ≡ drop count rest → Hands put_gives old bytes after left

module _ {O : Type 0} (put_gives : O → List ℕ → Result ℕ Failed → O → Type 0)
    (flush_gives : O → Result (Unit {0}) Failed → O → Type 0) where
  -- Such calls took all the bytes, and then one call passed on what the sink had taken. No other
  -- call was made.
  pub record IsWritten (bytes : List ℕ) (old new : O) : Type 0 where
    pub before : O
    pub handed : Hands put_gives old bytes before []
    pub flushed : flush_gives before (Ok tt) new

module _ {O : Type 0} (taken : O → Option (List ℕ)) (failed : O → ℕ)
    (put_gives : O → List ℕ → Result ℕ Failed → O → Type 0)
    (flush_gives : O → Result (Unit {0}) Failed → O → Type 0) where
  -- A call that a sink was stopped in, with what was left to hand over: it was handed that rest and
  -- failed, or took no byte of it; or no rest was left, and it failed to pass on what it had taken.
  abbrev pub StopsIn : List ℕ → O → O → Type 0
  StopsIn rest before new =
      ((0 < length rest) × (why : Failed) × put_gives before rest (Err why) new
      × (failed new ≡ one_more (failed before)))
      ⊎ ((0 < length rest) × put_gives before rest (Ok 0) new × (failed new ≡ failed before))
      ⊎ ((rest ≡ []) × (why : Failed) × flush_gives before (Err why) new
      × (failed new ≡ one_more (failed before)))

  -- The sink stopped before all the bytes were handed over and passed on. It took a front of them
  -- and nothing else, with no failure, and then stopped in a call at the very rest.
  pub record HasStopped (bytes : List ℕ) (old new : O) : Type 0 where
    pub front : List ℕ
    pub rest : List ℕ
    pub before : O
    pub split : bytes ≡ front ++ rest
    pub handed : Hands put_gives old bytes before rest
    pub taken_before : Appends (taken old) (taken before) front
    pub none_failed : failed before ≡ failed old
    pub last_call : StopsIn rest before new
    pub taken_now : Appends (taken old) (taken new) front
