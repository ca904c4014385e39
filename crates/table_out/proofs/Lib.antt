mod Arrays
mod ByPlace
mod Fields
mod LineParts
mod Pages
mod Tables
