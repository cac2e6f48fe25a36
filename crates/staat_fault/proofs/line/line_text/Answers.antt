use Rattle.staat_fault.specs.Faults.{body_of, line_of}
use Rattle.staat_fault.proofs.line.line_text.Goals as goal

pub returns-in-Usage : goal.returns-in-Usage
unfolding line_of body_of
returns-in-Usage c = rw c.in-Usage.is c.plain.ensures

pub returns-in-ReadFault : goal.returns-in-ReadFault
unfolding line_of body_of
returns-in-ReadFault c = rw (c.in-ReadFault.is, ← c.as_str.ensures) c.around.ensures

pub returns-in-TooLong : goal.returns-in-TooLong
unfolding line_of body_of
returns-in-TooLong c = rw (c.in-TooLong.is, ← c.as_str-in-TooLong.ensures) c.around-in-TooLong.ensures

pub returns-in-NoHeader : goal.returns-in-NoHeader
unfolding line_of body_of
returns-in-NoHeader c = rw c.in-NoHeader.is c.about.ensures

pub returns-in-BadNumber : goal.returns-in-BadNumber
unfolding line_of body_of
returns-in-BadNumber c = rw c.in-BadNumber.is c.about_at.ensures

pub returns-in-NotWhole : goal.returns-in-NotWhole
unfolding line_of body_of
returns-in-NotWhole c = rw c.in-NotWhole.is c.about_at-in-NotWhole.ensures

pub returns-in-TooBig : goal.returns-in-TooBig
unfolding line_of body_of
returns-in-TooBig c = rw c.in-TooBig.is c.about_at-in-TooBig.ensures

pub returns-in-BadCount : goal.returns-in-BadCount
unfolding line_of body_of
returns-in-BadCount c = rw c.in-BadCount.is c.about_at-in-BadCount.ensures

pub returns-in-BadIndex : goal.returns-in-BadIndex
unfolding line_of body_of
returns-in-BadIndex c = rw c.in-BadIndex.is c.about_at-in-BadIndex.ensures

pub returns-in-ShortFile : goal.returns-in-ShortFile
unfolding line_of body_of
returns-in-ShortFile c = rw c.in-ShortFile.is c.about-in-ShortFile.ensures

pub returns-in-Trailing : goal.returns-in-Trailing
unfolding line_of body_of
returns-in-Trailing c = rw c.in-Trailing.is c.about_at-in-Trailing.ensures

pub returns-in-TooFewPoints : goal.returns-in-TooFewPoints
unfolding line_of body_of
returns-in-TooFewPoints c = rw c.in-TooFewPoints.is c.about_count.ensures

pub returns-in-TooManyPoints : goal.returns-in-TooManyPoints
unfolding line_of body_of
returns-in-TooManyPoints c = rw c.in-TooManyPoints.is c.about_count-in-TooManyPoints.ensures

pub returns-in-Flat : goal.returns-in-Flat
unfolding line_of body_of
returns-in-Flat c = rw c.in-Flat.is c.about-in-Flat.ensures

pub returns-in-BadFace : goal.returns-in-BadFace
unfolding line_of body_of
returns-in-BadFace c = rw (c.in-BadFace.is, ← c.from.ensures) c.about_at-in-BadFace.ensures

pub returns-in-NotConvex : goal.returns-in-NotConvex
unfolding line_of body_of
returns-in-NotConvex c = rw (c.in-NotConvex.is, ← c.from-in-NotConvex.ensures) c.about_at-in-NotConvex.ensures

pub returns-in-OpenEdge : goal.returns-in-OpenEdge
unfolding line_of body_of
returns-in-OpenEdge c = rw c.in-OpenEdge.is c.open_edge.ensures

pub returns-in-PlacedFar : goal.returns-in-PlacedFar
unfolding line_of body_of
returns-in-PlacedFar c = rw c.in-PlacedFar.is c.about-in-PlacedFar.ensures

pub returns-in-NotJson : goal.returns-in-NotJson
unfolding line_of body_of
returns-in-NotJson c = rw c.in-NotJson.is c.about-in-NotJson.ensures

pub returns-in-BadShape : goal.returns-in-BadShape
unfolding line_of body_of
returns-in-BadShape c = rw c.in-BadShape.is c.about_text.ensures

pub returns-in-RepeatedName : goal.returns-in-RepeatedName
unfolding line_of body_of
returns-in-RepeatedName c = rw c.in-RepeatedName.is c.about_text-in-RepeatedName.ensures

pub returns-in-NoPieces : goal.returns-in-NoPieces
unfolding line_of body_of
returns-in-NoPieces c = rw (c.in-NoPieces.is, ← c.from-in-NoPieces.ensures) c.about_at-in-NoPieces.ensures

pub returns-in-TooManyParts : goal.returns-in-TooManyParts
unfolding line_of body_of
returns-in-TooManyParts c = rw c.in-TooManyParts.is c.about-in-TooManyParts.ensures

pub returns-in-TooManyPieces : goal.returns-in-TooManyPieces
unfolding line_of body_of
returns-in-TooManyPieces c = rw c.in-TooManyPieces.is c.about-in-TooManyPieces.ensures

pub returns-in-Overlap : goal.returns-in-Overlap
unfolding line_of body_of
returns-in-Overlap c = rw c.in-Overlap.is c.overlap.ensures

pub returns-in-BadLine : goal.returns-in-BadLine
unfolding line_of body_of
returns-in-BadLine c = rw (c.in-BadLine.is, ← c.from-in-BadLine.ensures) c.about_at-in-BadLine.ensures

pub returns-in-ShortCert : goal.returns-in-ShortCert
unfolding line_of body_of
returns-in-ShortCert c = rw c.in-ShortCert.is c.about-in-ShortCert.ensures

pub returns-in-TooManyPlanes : goal.returns-in-TooManyPlanes
unfolding line_of body_of
returns-in-TooManyPlanes c = rw (c.in-TooManyPlanes.is, ← c.from-in-TooManyPlanes.ensures) c.too_great.ensures

pub returns-in-TooFar : goal.returns-in-TooFar
unfolding line_of body_of
returns-in-TooFar c = rw c.in-TooFar.is c.too_far.ensures

pub returns-in-TextTooLong : goal.returns-in-TextTooLong
unfolding line_of body_of
returns-in-TextTooLong c = rw c.in-TextTooLong.is c.too_great-in-TextTooLong.ensures

pub returns-in-WriteFault : goal.returns-in-WriteFault
unfolding line_of body_of
returns-in-WriteFault c = rw c.in-WriteFault.is c.plain-in-WriteFault.ensures

pub returns-in-OutOfMemory : goal.returns-in-OutOfMemory
unfolding line_of body_of
returns-in-OutOfMemory c = rw c.in-OutOfMemory.is c.plain-in-OutOfMemory.ensures
