-- What a script that is read, run and printed comes to, by what its reader and its writer do.
use Rattle.std.specs.Prelude.{◌≡◌, ◌≢◌, ◌⊎◌, ℕ, List, Result, Ok, Err}
use Rattle.std.specs.declared.io.ErrorKind.{ErrorKind}
use Rattle.std.specs.declared.io.ErrorKind.TheVariants.{OutOfMemory}
use Rattle.amqp_endpoint.specs.declared.scenario.ScenarioError.{ScenarioError}
use Rattle.amqp_endpoint.specs.declared.scenario.ScenarioError.TheVariants.{Memory, Read, Write}
use Rattle.amqp_endpoint.specs.Performed.{comes_to}

-- a reader gives all of a text, or refuses with an error of a kind; a writer takes all of one, or stops
module _ {R W : Type 0} (gives : R → List ℕ → R → Type 0) (refuses : R → ErrorKind → R → Type 0)
    (takes : W → List ℕ → W → Type 0) (stops : W → List ℕ → W → Type 0)
  where
    -- the reader gave the script, and the writer took all that it prints
    pub record IsPrinted (reader : R) (writer : W) (status : ℕ) (reader_new : R) (writer_new : W) : Type 0 where
      pub text : List ℕ
      pub output : List ℕ
      pub given : gives reader text reader_new
      pub prints : comes_to text output status
      pub taken : takes writer output writer_new

    -- the reader refused, and not for want of memory: nothing is written
    pub record IsUnread (reader : R) (writer : W) (reader_new : R) (writer_new : W) : Type 0 where
      pub kind : ErrorKind
      pub refused : refuses reader kind reader_new
      pub another : kind ≢ OutOfMemory
      pub unwritten : writer_new ≡ writer

    -- the reader refused for want of memory: nothing is written
    pub record WantsMemoryForScript (reader : R) (writer : W) (reader_new : R) (writer_new : W) : Type 0 where
      pub refused : refuses reader OutOfMemory reader_new
      pub unwritten : writer_new ≡ writer

    -- the reader gave the script, and there was no memory for what it prints: nothing is written
    pub record WantsMemoryForAnswers (reader : R) (writer : W) (reader_new : R) (writer_new : W) : Type 0 where
      pub text : List ℕ
      pub given : gives reader text reader_new
      pub unwritten : writer_new ≡ writer

    -- the reader gave the script, and the writer stopped at what it prints
    pub record IsUnprinted (reader : R) (writer : W) (reader_new : R) (writer_new : W) : Type 0 where
      pub text : List ℕ
      pub output : List ℕ
      pub status : ℕ
      pub given : gives reader text reader_new
      pub prints : comes_to text output status
      pub stopped : stops writer output writer_new

    abbrev pub Runs : R → W → Result ℕ ScenarioError → R → W → Type 0
    Runs reader writer (Ok status) reader_new writer_new = IsPrinted reader writer status reader_new writer_new
    Runs reader writer (Err Read) reader_new writer_new = IsUnread reader writer reader_new writer_new
    Runs reader writer (Err Memory) reader_new writer_new =
        WantsMemoryForScript reader writer reader_new writer_new
        ⊎ WantsMemoryForAnswers reader writer reader_new writer_new
    Runs reader writer (Err Write) reader_new writer_new = IsUnprinted reader writer reader_new writer_new
