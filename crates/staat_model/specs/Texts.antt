-- The text of a certificate, and what is read in any bytes.
use Rattle.std.specs.Prelude.{◌≡◌, ◌≢◌, ◌⊎◌, ℕ, suc, ◌+◌, ◌*◌, ◌<◌, ◌≤◌, List}
use Rattle.std.specs.Prelude.{[], ◌∷◌, ◌++◌, map, length, flat_map}
use Rattle.std.specs.Prelude.{All}
use Rattle.std.specs.List.Sorted.{IsStrictlySortedBy}
use Rattle.staat_vec.specs.Vectors.{vector_cmp}
use Rattle.staat_vec.specs.Primitives.{IsCanon}
use Rattle.staat_model.specs.declared.certificate.Dir.{Dir}
use Rattle.staat_model.specs.declared.certificate.Node.{Node}
use Rattle.staat_model.specs.declared.certificate.Node.TheVariants.{Leaf, Split}
use Rattle.staat_model.specs.declared.certificate.Witness.{Witness}
use Rattle.staat_model.specs.declared.certificate.Body.{Body}
use Rattle.staat_model.specs.declared.certificate.Body.TheVariants as body
use Rattle.staat_model.specs.declared.certificate.Certificate.{Certificate}
use Rattle.staat_model.specs.declared.line.Line.{Line}
use Rattle.staat_model.specs.declared.line.Line.TheVariants as line
use Rattle.staat_limits.specs.declared.limits.TheConstants.{MOST_PARTS, LIST_LIMIT, LINE_LIMIT}
use Rattle.staat_model.specs.Certificates.{WalledPlan, nodes_of, arc_cmp}
use Rattle.staat_model.specs.Lines.{line_text, IsInBounds}

-- ---- the lines of a certificate

abbrev pub lines_of_node : Node → List Line
lines_of_node (Leaf p) = line.Leaf p ∷ []
lines_of_node (Split d seps) = line.Split d ∷ map line.Sep seps

-- witness number k
abbrev pub lines_of_witness : ℕ → Witness → List Line
lines_of_witness k w = line.Witness k ∷ (map line.Out w.outs ++ map line.In w.ins)

-- the witnesses from number k on
abbrev pub lines_of_witnesses : ℕ → List Witness → List Line
lines_of_witnesses k [] = []
lines_of_witnesses k (w ∷ ws) = lines_of_witness k w ++ lines_of_witnesses (suc k) ws

abbrev pub lines_of_body : Body → List Line
lines_of_body (body.Plan nodes) = line.Plan ∷ flat_map lines_of_node nodes
lines_of_body (body.Stuck w witnesses dirs) = line.Stuck w ∷ (lines_of_witnesses 0 witnesses ++ map line.Dir dirs)

abbrev pub lines_of : Certificate → List Line
lines_of c = line.Head c.version ∷ line.Parts c.parts ∷ (lines_of_body c.body ++ line.End ∷ [])

-- the bytes of a certificate
abbrev pub text_of : Certificate → List ℕ
text_of c = flat_map line_text (lines_of c)

-- ---- bounds and orders

-- the walls of a split ascend by their arcs
abbrev pub IsNodeInOrder : Node → Type 0
IsNodeInOrder (Leaf p) = Unit {0}
IsNodeInOrder (Split d seps) = IsStrictlySortedBy arc_cmp (map (λ sep. sep.arc) seps)

-- one whole tree in preorder, with at most 2 * parts - 1 nodes
pub record IsPlanInOrder (parts : ℕ) (nodes : List Node) : Type 0 where
  pub tree : WalledPlan
  pub is : nodes ≡ nodes_of tree
  pub most : length nodes + 1 ≤ 2 * parts
  pub each : All IsNodeInOrder nodes

-- a witness has fewer arcs outwards, and fewer back, than there can be parts
pub record IsWitnessInOrder (w : Witness) : Type 0 where
  pub outs : length w.outs < MOST_PARTS
  pub ins : length w.ins < MOST_PARTS

-- fewer witnesses and directions than the limit, the directions ascending and each with a witness that is there; in
-- version 2 the first nonzero component of each direction is positive
pub record IsRefusalInOrder (version : ℕ) (witnesses : List Witness) (dirs : List Dir) : Type 0 where
  pub witness_count : length witnesses < LIST_LIMIT
  pub dir_count : length dirs < LIST_LIMIT
  pub each : All IsWitnessInOrder witnesses
  pub named : All (λ dir. dir.witness < length witnesses) dirs
  pub ascending : IsStrictlySortedBy vector_cmp (map (λ dir. dir.d) dirs)
  pub canonical : version ≡ 2 → All (λ dir. IsCanon dir.d) dirs

abbrev pub IsBodyInOrder : (version parts : ℕ) → Body → Type 0
IsBodyInOrder version parts (body.Plan nodes) = IsPlanInOrder parts nodes
IsBodyInOrder version parts (body.Stuck w witnesses dirs) = IsRefusalInOrder version witnesses dirs

-- the numbers of each line are within their bounds, and the lists in their orders
pub record IsWellFormed (c : Certificate) : Type 0 where
  pub lines : All IsInBounds (lines_of c)
  pub body : IsBodyInOrder c.version c.parts c.body

-- ---- reading

-- the bytes are the text of the certificate
pub record IsTextOf (bytes : List ℕ) (c : Certificate) : Type 0 where
  pub form : IsWellFormed c
  pub is : bytes ≡ text_of c

-- some certificate's text begins with the bytes
pub record BeginsText (bytes : List ℕ) : Type 0 where
  pub certificate : Certificate
  pub form : IsWellFormed certificate
  pub more : List ℕ
  pub is : text_of certificate ≡ bytes ++ more

-- the bytes have no line feed
abbrev pub HasNoFeed : List ℕ → Type 0
HasNoFeed bytes = All (λ b. b ≢ 10) bytes

-- the bytes have one line feed, at their end
pub record IsLine (bytes : List ℕ) : Type 0 where
  pub front : List ℕ
  pub is : bytes ≡ front ++ 10 ∷ []
  pub no_feed : HasNoFeed front

-- the lines, one after another
abbrev pub joined : List (List ℕ) → List ℕ
joined = flat_map (λ l. l)

-- `ahead` begins with a whole line with which no certificate's text goes on after `before`
pub record IsWrongLine (before ahead : List ℕ) : Type 0 where
  pub line : List ℕ
  pub rest : List ℕ
  pub is : ahead ≡ line ++ rest
  pub whole : IsLine line
  pub wrong : BeginsText (before ++ line) → ⊥

-- `ahead` begins with a line that is too long: its first 128 bytes hold no line feed
pub record IsLongLine (ahead : List ℕ) : Type 0 where
  pub line : List ℕ
  pub rest : List ℕ
  pub is : ahead ≡ line ++ rest
  pub long : length line ≡ LINE_LIMIT
  pub no_feed : HasNoFeed line

-- `before` is a whole certificate's text, and bytes follow
pub record IsExcess (before ahead : List ℕ) : Type 0 where
  pub certificate : Certificate
  pub whole : IsTextOf before certificate
  pub some : ahead ≢ []

-- the line that follows the text `before`, with which `ahead` begins, is bad
abbrev pub IsBadAfter : List ℕ → List ℕ → Type 0
IsBadAfter before ahead = IsWrongLine before ahead ⊎ (IsLongLine ahead ⊎ IsExcess before ahead)

-- line number k, counted from 1, is the first bad one
pub record IsFirstBadLine (bytes : List ℕ) (k : ℕ) : Type 0 where
  pub before : List (List ℕ)
  pub ahead : List ℕ
  pub number : k ≡ length before + 1
  pub is : bytes ≡ joined before ++ ahead
  pub lines : All IsLine before
  pub begins : BeginsText (joined before)
  pub bad : IsBadAfter (joined before) ahead

-- the bytes are no certificate's text and have no bad line: they end too soon
pub record IsShort (bytes : List ℕ) : Type 0 where
  pub no_text : (c : Certificate) → IsTextOf bytes c → ⊥
  pub no_bad_line : (k : ℕ) → IsFirstBadLine bytes k → ⊥

-- what is read in bytes: a certificate, the number of the first bad line, or that they are too short
pub data Reading : Type 0 where
  whole : (certificate : Certificate) → Reading
  bad_line : (number : ℕ) → Reading
  too_short : Reading

abbrev pub IsReading : List ℕ → Reading → Type 0
IsReading bytes (whole c) = IsTextOf bytes c
IsReading bytes (bad_line k) = IsFirstBadLine bytes k
IsReading bytes too_short = IsShort bytes
